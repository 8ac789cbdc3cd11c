use Rattle.std.proofs.Common.{◌≡◌, ◌<◌, length, get_or}
use Rattle.salt_words.specs.Runs.{run_at, salted_at}
use Rattle.salt_words.proofs.search.next_salted.Given as goal

abbrev pub invariant-loop-word : goal.invariant-loop-word
invariant-loop-word g l =
    let words = g.W.Words.words l.words in
    (l.at < length words)
    × (l.word ≡ get_or words l.at 0)
    × (salted_at words l.salt l.fn.place ≡ salted_at words l.salt l.at)

abbrev pub decreases-loop-word : goal.decreases-loop-word
decreases-loop-word g l = length (run_at (g.W.Words.words l.words) l.at)
