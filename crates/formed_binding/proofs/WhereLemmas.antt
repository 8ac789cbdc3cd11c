-- WHERE, operand by operand of its outermost AND.
use Rattle.std.proofs.Common.{ℕ, Bool, List, [], ◌∷◌, ◌++◌, sym, ap, ◌∙◌, subst, Ok}
use Rattle.std.specs.Prelude.{◌&&◌}
use Rattle.std.proofs.lemmas.Bool.{and_parts}
use Rattle.ooc_types.specs.declared.schema.Column.{Column}
use Rattle.ooc_types.specs.declared.schema.SqlType.{SqlType}
use Rattle.ooc_types.specs.declared.schema.SqlType.TheVariants.{Boolean}
use Rattle.ooc_types.specs.declared.refusal.RefusalKind.TheVariants.{TypeMismatch}
use Rattle.sql_expr.specs.Kinds.{kind_of}
use Rattle.bound_tree.specs.declared.select.BoundSelect.{BoundSelect}
use Rattle.bound_tree.specs.declared.select.Conjunct.TheVariants.{Member, rolls-Condition, rolls-Member}
use Rattle.bound_tree.specs.declared.select.BoundRows.TheOpen.{Conjunct-F}
use Rattle.bound_tree.specs.declared.select.BoundRows.TheViews.{out-BoundSelect, out-Conjunct, out-roll-Conjunct}
use Rattle.sql_scope.specs.declared.part.Part.{Part}
use Rattle.sql_scope.specs.Answer.{◌>>=◌, unless}
use Rattle.sql_scope.specs.Operations.{are_comparable, is_boolean}
use Rattle.sql_clauses.specs.declared.conditions.FilterOperand.{FilterOperand}
use Rattle.sql_clauses.specs.declared.conditions.Filter.{Filter}
use Rattle.sql_clauses.specs.Conditions.{begun, ended, joined, plain_operand}
use Rattle.sql_clauses.specs.Membership.{matched, member, only_type}
use Rattle.typed_scope.proofs.PartLemmas.{comparable, truth-kind}
use Rattle.well_formed.specs.Cores.{IsConjunct, IsConjunctIn, IsCoreNode, IsOneComparable}
use Rattle.well_formed.specs.Exprs.{IsExpr}
use Rattle.well_formed.specs.From.{IsSourceNode}
use Rattle.well_formed.specs.Given.{Schemas, kinds_of_columns, kinds_of_select}
use Rattle.well_formed.specs.Rows.{AnyConjunct, AnyInput, IsRowsNode, IsSelectNode, IsWellFormedConjunct}
use Rattle.well_formed.proofs.Parts.{part_made}
use Rattle.formed_binding.specs.Answers.{OfAnswer}
use Rattle.formed_binding.specs.Filters.{AreConjuncts, IsFilter, IsOperand}
use Rattle.formed_binding.specs.Named.{IsSelected}
use Rattle.formed_binding.proofs.EachLemmas.{asked-for, on-answer}
use Rattle.formed_binding.proofs.TableLemmas.{all-behind}

-- one column, of a type that compares
one-column : (kind : SqlType) (place at : ℕ) (columns : List Column) → OfAnswer (λ (k : SqlType). IsOneComparable kind (kinds_of_columns columns)) (only_type at columns >>= (λ (k : SqlType). unless (are_comparable kind k) place TypeMismatch k))
one-column kind place at [] = tt
one-column kind place at (column ∷ []) = asked-for (λ (k : SqlType). IsOneComparable kind (column.kind ∷ [])) (are_comparable kind column.kind) place TypeMismatch column.kind (λ e. comparable kind column.kind e)
one-column kind place at (column ∷ other ∷ more) = tt

module _ (limit : ℕ) (schemas : Schemas) (columns : List SqlType) where
  pub plain-formed : (part : Part) → IsExpr limit columns part.tree → OfAnswer (IsOperand limit schemas columns) (plain_operand part)
  plain-formed part is = record {
    formed = subst (IsWellFormedConjunct limit schemas) (rolls-Condition part.tree) (part_made IsRowsNode AnyConjunct AnyInput (IsCoreNode limit) IsSelectNode (IsSourceNode schemas) (Conjunct-F.Condition part.tree) tt tt);
    conjunct = λ boolean. subst (IsConjunctIn limit columns) (sym (ap out-Conjunct (sym (rolls-Condition part.tree)) ∙ out-roll-Conjunct (Conjunct-F.Condition part.tree))) (record { whole = is; boolean = boolean });
  }

  pub member-formed : (place at : ℕ) (negated : Bool) (of : Part) (query : BoundSelect) → IsExpr limit columns of.tree → IsSelected limit schemas query → OfAnswer (IsOperand limit schemas columns) (member place at negated of query)
  member-formed place at negated of query is selected =
      on-answer (λ (k : SqlType). IsOneComparable (kind_of of.tree) (kinds_of_select query)) (IsOperand limit schemas columns) (matched place at of.tree query) (λ (k : SqlType). Ok (record { conjunct = Member of.tree query negated; kind = Boolean }))
      (one-column (kind_of of.tree) place at (out-BoundSelect query).columns)
      (λ k one. record {
        formed = subst (IsWellFormedConjunct limit schemas) (rolls-Member of.tree query negated) (part_made IsRowsNode AnyConjunct AnyInput (IsCoreNode limit) IsSelectNode (IsSourceNode schemas) (Conjunct-F.Member of.tree query negated) selected.formed tt);
        conjunct = λ boolean. subst (IsConjunctIn limit columns) (sym (ap out-Conjunct (sym (rolls-Member of.tree query negated)) ∙ out-roll-Conjunct (Conjunct-F.Member of.tree query negated))) (record { operand = is; column = one });
      })

  pub begun-formed : (operand : FilterOperand) → IsOperand limit schemas columns operand → OfAnswer (IsFilter limit schemas columns) (begun operand)
  begun-formed operand is = record { formed = (is.formed, tt); conjuncts = λ boolean. (is.conjunct boolean, tt) }

  pub joined-formed : (place : ℕ) (filter : Filter) (operand : FilterOperand) → IsFilter limit schemas columns filter → IsOperand limit schemas columns operand → OfAnswer (IsFilter limit schemas columns) (joined place filter operand)
  joined-formed place filter operand f o =
      asked-for (IsFilter limit schemas columns) (is_boolean filter.kind && is_boolean operand.kind) place TypeMismatch (record { conjuncts = filter.conjuncts ++ operand.conjunct ∷ []; kind = Boolean })
      (λ e. let p = and_parts (is_boolean filter.kind) (is_boolean operand.kind) e in record {
        formed = all-behind (IsWellFormedConjunct limit schemas) filter.conjuncts operand.conjunct f.formed o.formed;
        conjuncts = λ boolean. all-behind (IsConjunct limit columns) filter.conjuncts operand.conjunct (f.conjuncts (truth-kind filter.kind p.0)) (o.conjunct (truth-kind operand.kind p.1));
      })

  pub ended-formed : (place : ℕ) (filter : Filter) → IsFilter limit schemas columns filter → OfAnswer (AreConjuncts limit schemas columns) (ended place filter)
  ended-formed place filter f =
      asked-for (AreConjuncts limit schemas columns) (is_boolean filter.kind) place TypeMismatch filter.conjuncts (λ e. record { formed = f.formed; conjuncts = f.conjuncts (truth-kind filter.kind e) })
