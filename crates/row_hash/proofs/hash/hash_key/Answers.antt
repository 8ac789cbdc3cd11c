use Rattle.std.proofs.Common.{◌≡◌, List, [], drop, length, ◌≤◌, sym, ap, ◌∙◌, arith}
use Rattle.std.proofs.lemmas.List.{drop_all}
use Rattle.std.specs.List.{fold}
use Rattle.ooc_types.specs.declared.value.Value.{Value}
use Rattle.ooc_types.specs.Canonical.{canonical}
use Rattle.row_hash.specs.Hash.{fnv_step, mix, hash_of}
use Rattle.row_hash.proofs.hash.hash_key.Goals as goal

pub returns : goal.returns
unfolding hash_of
returns c =
    let at = c.loop-value.value-index in
    let all : length c.args.key.now ≤ at = omega arith in
    let none : drop at c.args.key.now ≡ [] = drop_all at c.args.key.now all in
    c.mix.ensures ∙ ap mix (sym (ap (λ rest. fold fnv_step c.loop-value.hash (canonical rest)) none) ∙ c.loop-value.invariant)
