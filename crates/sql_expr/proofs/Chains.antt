-- Chains of operations.
use Rattle.std.proofs.Common.{◌≡◌, ◌≤◌, ◌-◌, List, [], ◌∷◌, map, sym, ap, length, get_or, arith}
use Rattle.std.proofs.lemmas.Grind.{common_steps}
use Rattle.ooc_types.specs.declared.schema.SqlType.{SqlType}
use Rattle.sql_expr.specs.declared.tree.Link.{Link}
use Rattle.sql_expr.specs.Kinds.{last_kind, link_kind}

pub last_of : (kind : SqlType) (links : List Link) (last : Link) → 1 ≤ length links
    → last ≡ get_or links (length links - 1) last → last_kind kind (map link_kind links) ≡ link_kind last
last_of kind [] last h e = absurd (omega arith)
last_of kind (x ∷ []) last h e = sym (ap link_kind e)
last_of kind (x ∷ (y ∷ links)) last h e = last_of (link_kind x) (y ∷ links) last (omega arith) (grind (arith, common_steps))
