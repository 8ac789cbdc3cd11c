use Rattle.std.proofs.Common.{◌≡◌, ◌++◌, ◌∷◌, [], None, Some, false, drop, arith, rules, string_bytes}
use Rattle.std.proofs.lemmas.Grind.{common_steps}
use Rattle.run_settings.specs.First.{after, first_said}
use Rattle.run_settings.specs.Texts.{saying_of, sayings_of, words_of}
use Rattle.run_settings.specs.Words.{is_mark, said}
use Rattle.run_settings.proofs.Front.{goes-on}
use Rattle.run_settings.proofs.words.said.Goals as goal

pub loop-left-preserved : goal.loop-left-preserved
loop-left-preserved c =
    let word = string_bytes c.word-item.result in
    let rest = words_of (drop 1 c.loop-left.left.now) in
    let mark : is_mark (string_bytes c.word-item.result) ≡ false = first_of (search rules, grind (arith, common_steps)) in
    let first : first_said word rest ≡ Some (saying_of c.in-Some.one, words_of c.in-Some.behind.now) = first_of (search rules, grind (arith, common_steps)) in
    let more : sayings_of c.push_said.new.all.items ≡ sayings_of c.loop-left.all.items ++ saying_of c.in-Some.one ∷ [] = first_of (search rules, grind (arith, common_steps)) in
    let before : said None (words_of c.args.words.now) ≡ after (sayings_of c.loop-left.all.items) (said None (word ∷ rest)) = first_of (search rules, grind (arith, common_steps)) in
    goes-on (said None (words_of c.args.words.now)) (sayings_of c.loop-left.all.items) (sayings_of c.push_said.new.all.items) word rest (words_of c.in-Some.behind.now) (saying_of c.in-Some.one) mark before first more
