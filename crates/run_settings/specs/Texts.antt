-- What is said and asked, as the code lends it.
use Rattle.std.specs.Prelude.{List, map, Vec, Option, Result, Ok, Err, option_map, String, string_bytes}
use Rattle.std.specs.Borrow.{Bor}
use Rattle.run_settings.specs.Words.{Word, Asked, Saying}
use Rattle.run_settings.specs.declared.words.Entry.{Entry}
use Rattle.run_settings.specs.declared.words.Texts.{Texts}

abbrev pub text_now : Option (Bor Word) → Option Word
text_now = option_map (λ text. text.now)

abbrev pub asked_of : Texts → Asked
asked_of t = record {
  script = t.script.now;
  threads = text_now t.threads;
  limit = text_now t.limit;
  page = text_now t.page;
}

abbrev pub option_asked : Option Texts → Option Asked
option_asked = option_map asked_of

abbrev pub result_asked : {E : Type 0} → Result Texts E → Result Asked E
result_asked (Ok t) = Ok (asked_of t)
result_asked (Err e) = Err e

abbrev pub saying_of : Entry → Saying
saying_of s = record { option = s.option.now; text = s.text.now }

abbrev pub sayings_of : List Entry → List Saying
sayings_of = map saying_of

abbrev pub result_said : {E A : Type 0} → Result (Vec Entry A) E → Result (List Saying) E
result_said (Ok all) = Ok (sayings_of all.items)
result_said (Err e) = Err e

abbrev pub words_of : {A : Type 0} → List (String A) → List Word
words_of words = map (λ word. string_bytes word) words

abbrev pub first_now : {A : Type 0} → Option (Entry × Bor (List (String A))) → Option (Saying × List Word)
first_now = option_map (λ p. (saying_of p.0, words_of p.1.now))

abbrev pub parts_now : Option (Bor Word × Option (Bor Word)) → Option (Word × Option Word)
parts_now = option_map (λ p. (p.0.now, text_now p.1))

abbrev pub found_now : Option (Option (Bor Word)) → Option (Option Word)
found_now = option_map text_now
