use Rattle.std.proofs.Common.{◌<◌, length}
use Rattle.salt_words.specs.Runs.{run_at}
use Rattle.salt_words.specs.Tables.{LeadsTo}
use Rattle.salt_words.proofs.search.free_place.Given as goal

abbrev pub invariant-loop-at : goal.invariant-loop-at
invariant-loop-at g l =
    let words = g.W.Words.words l.words in
    (l.at < length words) × LeadsTo words l.first l.at

abbrev pub decreases-loop-at : goal.decreases-loop-at
decreases-loop-at g l = length (run_at (g.W.Words.words l.words) l.at)
