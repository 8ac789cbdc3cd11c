-- What an expression keeps, by what its operands keep.
use Rattle.std.proofs.Common.{◌≡◌, ℕ, ◌+◌, ◌≤◌, Bool, true, false, ◌==◌, List, [], ◌∷◌, ◌++◌, refl, sym, subst, Option, Some, None, Ok, Err, arith}
use Rattle.std.specs.Prelude.{◌||◌, not, is_some}
use Rattle.std.proofs.lemmas.Bool.{and_parts}
use Rattle.sql_grammar.specs.declared.tree.expr.CompareSign.{CompareSign}
use Rattle.sql_grammar.specs.declared.tree.expr.Constant.{Constant}
use Rattle.sql_grammar.specs.declared.tree.expr.Span.{Span}
use Rattle.sql_scope.specs.declared.call.Function.{Function}
use Rattle.sql_scope.specs.declared.chain.Chain.{Chain}
use Rattle.sql_scope.specs.declared.chain.Conditions.{Conditions}
use Rattle.sql_scope.specs.declared.part.Part.{Part}
use Rattle.sql_scope.specs.Answer.{Answer, ◌>>=◌, each}
use Rattle.sql_scope.specs.Calls.{argument_view, distinct_call, function_of, star_call, value_call}
use Rattle.sql_scope.specs.Parts as parts
use Rattle.sql_scope.specs.Scopes.{View, columns_of, kinds, without_aggregates}
use Rattle.sql_scope.specs.Texts.{folded_at}
use Rattle.sql_scope.specs.Trees.{constants_from}
use Rattle.sql_clauses.specs.declared.conditions.FilterOperand.{FilterOperand}
use Rattle.sql_clauses.specs.Conditions.{begun, joined, plain_operand}
use Rattle.sql_clauses.specs.Membership.{matched, member, misplaced}
use Rattle.bind_rules.specs.Bindings.{ExprBinding, LinkBinding, OperandBinding, SelectBinding}
use Rattle.bind_rules.specs.Expressions as rules
use Rattle.bind_rules.specs.Expressions.{some_of}
use Rattle.formed_binding.specs.Answers.{OfAnswer}
use Rattle.formed_binding.specs.Filters.{IsFilter, IsOperand}
use Rattle.formed_binding.specs.Keeps.{EachOf, OfExpr, OfLink, OfOperand, OfSelect}
use Rattle.formed_binding.specs.Named.{IsSelected}
use Rattle.formed_binding.specs.Parts.{AreConditions, AreListed, IsChain, IsPart, IsView, one_if}
use Rattle.formed_binding.specs.Placed.{Placed, all_of, are_different, count, is_among}
use Rattle.formed_binding.proofs.EachLemmas.{on-answer}
use Rattle.formed_binding.proofs.Facts.{calls-more, left-stands, no-calls, part-expr, right-stands}
use Rattle.formed_binding.proofs.NodeLemmas.{distinct-part, star-part, value-part}
use Rattle.formed_binding.proofs.OperationLemmas.{begun-chain, between-part, comparison-part, constants-listed, either-part, ended-part, every-part, joined-conditions, linked-chain, one-of-part, started-conditions}
use Rattle.formed_binding.proofs.SourceLemmas.{append-assoc, append-nothing}
use Rattle.formed_binding.proofs.WhereLemmas.{begun-formed, joined-formed, member-formed, plain-formed}

-- ---- places

counted : (xs ys : List ℕ) (place : ℕ) → count (xs ++ ys) place ≡ count xs place + count ys place
counted [] ys place = omega arith
counted (x ∷ xs) ys place = let h = counted xs ys place in omega arith

pub sum : (xs ys : List ℕ) (place : ℕ) → count xs place + count ys place ≤ count (xs ++ ys) place
sum xs ys place = let h = counted xs ys place in omega arith

sum-three : (xs ys zs : List ℕ) (place : ℕ) → count xs place + (count ys place + count zs place) ≤ count (xs ++ (ys ++ zs)) place
sum-three xs ys zs place = let h = counted xs (ys ++ zs) place in let k = counted ys zs place in omega arith

none-among : (place : ℕ) (xs : List ℕ) → is_among place xs ≡ false → count xs place ≡ 0
none-among place [] e = refl
none-among place (x ∷ xs) e = by (x == place) refl e (none-among place xs)
  where
    by : (b : Bool) → (x == place) ≡ b → (b || is_among place xs) ≡ false → (is_among place xs ≡ false → count xs place ≡ 0) → one_if b + count xs place ≡ 0
    by true s e rest = cc
    by false s e rest = let h = rest e in omega arith

pub once : (xs : List ℕ) → are_different xs ≡ true → (place : ℕ) → count xs place ≤ 1
once [] e place = omega arith
once (x ∷ xs) e place =
    let p = and_parts (not (is_among x xs)) (are_different xs) e in
    let rest = once xs p.1 place in
    by (x == place) refl (is_among x xs) refl p.0 rest
  where
    by : (b : Bool) → (x == place) ≡ b → (a : Bool) → is_among x xs ≡ a → not a ≡ true → count xs place ≤ 1 → one_if b + count xs place ≤ 1
    by false s a i n rest = omega arith
    by true s true i n rest = cc
    by true s false i n rest =
        let same : x ≡ place = number x place s in
        let zero_here : count xs place ≡ 0 = none-among place xs (subst (λ (at : ℕ). is_among at xs ≡ false) same i) in
        omega arith
      where
        number : (m n : ℕ) → (m == n) ≡ true → m ≡ n
        number m n e = grind arith

pub behind-any : {A B : Type 0} (Q : B → Type 0) (m : Answer A) (f : A → Answer B) → ((a : A) → OfAnswer Q (f a)) → OfAnswer Q (m >>= f)
behind-any Q (Err refusal) f step = tt
behind-any Q (Ok a) f step = step a

-- ---- parts

part-more : (view : View) (f flag : Bool) (n : ℕ → ℕ) (part : Part) → (f ≡ true → flag ≡ true) → IsPart view f n part → IsPart view flag n part
part-more view f flag n part to is = record { typed = is.typed; calls = calls-more view f flag part.calls to is.calls; counted = is.counted; covered = is.covered }

module _ (view : View) (sees : IsView view) where
  abbrev Has : ExprBinding → List ℕ → Type 0
  Has b calls = OfExpr b calls

  abbrev flag_of : ExprBinding → Bool
  flag_of b = b.aggregates view.script

  -- ---- chains

  links-kept : (flag : Bool) (done : List ℕ) (m : Answer Chain) (links : List LinkBinding) (cs : List Placed) → EachOf OfLink links cs → OfAnswer (IsChain view flag (count done)) m
      → (some_of (rules.link_aggregates view.script) links ≡ true → flag ≡ true) → OfAnswer (IsChain view flag (count (done ++ (all_of cs).calls))) (each (rules.linked view) m links)
  links-kept flag done m [] [] all h to = subst (λ (places : List ℕ). OfAnswer (IsChain view flag (count places)) m) (sym (append-nothing done)) h
  links-kept flag done m [] (c ∷ cs) all h to = absurd all
  links-kept flag done m (l ∷ links) [] all h to = absurd all
  links-kept flag done m (l ∷ links) (c ∷ cs) all h to =
      subst (λ (places : List ℕ). OfAnswer (IsChain view flag (count places)) (each (rules.linked view) (m >>= rules.linked view l) links)) (append-assoc done c.calls (all_of cs).calls)
      (links-kept flag (done ++ c.calls) (m >>= rules.linked view l) links cs all.1
      (on-answer (IsChain view flag (count done)) (IsChain view flag (count (done ++ c.calls))) m (rules.linked view l) h
      (λ chain i. on-answer (IsPart view (flag_of l.right) (count c.calls)) (IsChain view flag (count (done ++ c.calls))) (l.right.part view) (parts.linked l.place l.sign chain) (all.0.part view sees)
      (λ right j. linked-chain view flag flag (flag_of l.right) (count (done ++ c.calls)) (count done) (count c.calls) l.place l.sign chain right i j (λ e. e)
      (λ e. to (left-stands (flag_of l.right) (some_of (rules.link_aggregates view.script) links) e)) (sum done c.calls))))
      (λ e. to (right-stands (flag_of l.right) (some_of (rules.link_aggregates view.script) links) e)))

  pub chain-kept : (first : ExprBinding) (fc : Placed) (links : List LinkBinding) (cs : List Placed) → OfExpr first fc.calls → EachOf OfLink links cs
      → OfAnswer (IsPart view (flag_of first || some_of (rules.link_aggregates view.script) links) (count (fc.calls ++ (all_of cs).calls))) (first.part view >>= rules.begin_chain >>= rules.chain_behind view links >>= parts.ended view)
  chain-kept first fc links cs of all =
      let rest = some_of (rules.link_aggregates view.script) links in
      let flag = flag_of first || rest in
      let n = count (fc.calls ++ (all_of cs).calls) in
      on-answer (IsChain view flag n) (IsPart view flag n) (first.part view >>= rules.begin_chain >>= rules.chain_behind view links) (parts.ended view)
      (on-answer (IsChain view flag (count fc.calls)) (IsChain view flag n) (first.part view >>= rules.begin_chain) (rules.chain_behind view links)
      (on-answer (IsPart view (flag_of first) (count fc.calls)) (IsChain view flag (count fc.calls)) (first.part view) rules.begin_chain (of.part view sees)
      (λ p is. begun-chain view flag (count fc.calls) p (part-more view (flag_of first) flag (count fc.calls) p (λ e. left-stands (flag_of first) rest e) is)))
      (λ chain h. links-kept flag fc.calls (Ok chain) links cs all h (λ e. right-stands (flag_of first) rest e)))
      (λ chain h. ended-part view flag n chain h)

  -- ---- AND and OR

  others-kept : (flag : Bool) (done : List ℕ) (m : Answer Conditions) (others : List OperandBinding) (cs : List Placed) → EachOf OfOperand others cs → OfAnswer (AreConditions view flag (count done)) m
      → (some_of (rules.operand_aggregates view.script) others ≡ true → flag ≡ true) → OfAnswer (AreConditions view flag (count (done ++ (all_of cs).calls))) (each (rules.conditioned view) m others)
  others-kept flag done m [] [] all h to = subst (λ (places : List ℕ). OfAnswer (AreConditions view flag (count places)) m) (sym (append-nothing done)) h
  others-kept flag done m [] (c ∷ cs) all h to = absurd all
  others-kept flag done m (o ∷ others) [] all h to = absurd all
  others-kept flag done m (o ∷ others) (c ∷ cs) all h to =
      subst (λ (places : List ℕ). OfAnswer (AreConditions view flag (count places)) (each (rules.conditioned view) (m >>= rules.conditioned view o) others)) (append-assoc done c.calls (all_of cs).calls)
      (others-kept flag (done ++ c.calls) (m >>= rules.conditioned view o) others cs all.1
      (on-answer (AreConditions view flag (count done)) (AreConditions view flag (count (done ++ c.calls))) m (rules.conditioned view o) h
      (λ before i. on-answer (IsPart view (flag_of o.right) (count c.calls)) (AreConditions view flag (count (done ++ c.calls))) (o.right.part view) (parts.joined o.place before) (all.0.part view sees)
      (λ right j. joined-conditions view flag flag (flag_of o.right) (count (done ++ c.calls)) (count done) (count c.calls) o.place before right i j (λ e. e)
      (λ e. to (left-stands (flag_of o.right) (some_of (rules.operand_aggregates view.script) others) e)) (sum done c.calls))))
      (λ e. to (right-stands (flag_of o.right) (some_of (rules.operand_aggregates view.script) others) e)))

  conditions-kept : (first : ExprBinding) (fc : Placed) (others : List OperandBinding) (cs : List Placed) → OfExpr first fc.calls → EachOf OfOperand others cs
      → OfAnswer (AreConditions view (flag_of first || some_of (rules.operand_aggregates view.script) others) (count (fc.calls ++ (all_of cs).calls))) (first.part view >>= rules.begin_conditions >>= rules.conditions_behind view others)
  conditions-kept first fc others cs of all =
      let rest = some_of (rules.operand_aggregates view.script) others in
      let flag = flag_of first || rest in
      let n = count (fc.calls ++ (all_of cs).calls) in
      on-answer (AreConditions view flag (count fc.calls)) (AreConditions view flag n) (first.part view >>= rules.begin_conditions) (rules.conditions_behind view others)
      (on-answer (IsPart view (flag_of first) (count fc.calls)) (AreConditions view flag (count fc.calls)) (first.part view) rules.begin_conditions (of.part view sees)
      (λ p is. started-conditions view flag (count fc.calls) p (part-more view (flag_of first) flag (count fc.calls) p (λ e. left-stands (flag_of first) rest e) is)))
      (λ before h. others-kept flag fc.calls (Ok before) others cs all h (λ e. right-stands (flag_of first) rest e))

  pub every-kept : (first : ExprBinding) (fc : Placed) (others : List OperandBinding) (cs : List Placed) → OfExpr first fc.calls → EachOf OfOperand others cs
      → OfAnswer (IsPart view (flag_of first || some_of (rules.operand_aggregates view.script) others) (count (fc.calls ++ (all_of cs).calls))) (first.part view >>= rules.begin_conditions >>= rules.conditions_behind view others >>= parts.every view)
  every-kept first fc others cs of all =
      let flag = flag_of first || some_of (rules.operand_aggregates view.script) others in
      let n = count (fc.calls ++ (all_of cs).calls) in
      on-answer (AreConditions view flag n) (IsPart view flag n) (first.part view >>= rules.begin_conditions >>= rules.conditions_behind view others) (parts.every view) (conditions-kept first fc others cs of all) (λ c h. every-part view flag n c h)

  pub either-kept : (first : ExprBinding) (fc : Placed) (others : List OperandBinding) (cs : List Placed) → OfExpr first fc.calls → EachOf OfOperand others cs
      → OfAnswer (IsPart view (flag_of first || some_of (rules.operand_aggregates view.script) others) (count (fc.calls ++ (all_of cs).calls))) (first.part view >>= rules.begin_conditions >>= rules.conditions_behind view others >>= parts.either view)
  either-kept first fc others cs of all =
      let flag = flag_of first || some_of (rules.operand_aggregates view.script) others in
      let n = count (fc.calls ++ (all_of cs).calls) in
      on-answer (AreConditions view flag n) (IsPart view flag n) (first.part view >>= rules.begin_conditions >>= rules.conditions_behind view others) (parts.either view) (conditions-kept first fc others cs of all) (λ c h. either-part view flag n c h)

  -- ---- two and three operands, a list, and IN with a subquery

  pub compare-kept : (place : ℕ) (sign : CompareSign) (left right : ExprBinding) (a b : Placed) → OfExpr left a.calls → OfExpr right b.calls
      → OfAnswer (IsPart view (flag_of left || flag_of right) (count (a.calls ++ b.calls))) (left.part view >>= (λ l. right.part view >>= parts.comparison view place sign l))
  compare-kept place sign left right a b p q =
      let flag = flag_of left || flag_of right in
      let n = count (a.calls ++ b.calls) in
      on-answer (IsPart view (flag_of left) (count a.calls)) (IsPart view flag n) (left.part view) (λ (l : Part). right.part view >>= parts.comparison view place sign l) (p.part view sees)
      (λ l i. on-answer (IsPart view (flag_of right) (count b.calls)) (IsPart view flag n) (right.part view) (parts.comparison view place sign l) (q.part view sees)
      (λ r j. comparison-part view flag (flag_of left) (flag_of right) n (count a.calls) (count b.calls) place sign l r i j (λ e. left-stands (flag_of left) (flag_of right) e) (λ e. right-stands (flag_of left) (flag_of right) e) (sum a.calls b.calls)))

  pub between-kept : (place : ℕ) (negated : Bool) (of low high : ExprBinding) (a b c : Placed) → OfExpr of a.calls → OfExpr low b.calls → OfExpr high c.calls
      → OfAnswer (IsPart view (flag_of of || (flag_of low || flag_of high)) (count (a.calls ++ (b.calls ++ c.calls)))) (of.part view >>= (λ o. low.part view >>= (λ l. high.part view >>= parts.between view place negated o l)))
  between-kept place negated of low high a b c p q r =
      let two = flag_of low || flag_of high in
      let flag = flag_of of || two in
      let n = count (a.calls ++ (b.calls ++ c.calls)) in
      on-answer (IsPart view (flag_of of) (count a.calls)) (IsPart view flag n) (of.part view) (λ (o : Part). low.part view >>= (λ (l : Part). high.part view >>= parts.between view place negated o l)) (p.part view sees)
      (λ o i. on-answer (IsPart view (flag_of low) (count b.calls)) (IsPart view flag n) (low.part view) (λ (l : Part). high.part view >>= parts.between view place negated o l) (q.part view sees)
      (λ l j. on-answer (IsPart view (flag_of high) (count c.calls)) (IsPart view flag n) (high.part view) (parts.between view place negated o l) (r.part view sees)
      (λ h k. between-part view flag (flag_of of) (flag_of low) (flag_of high) n (count a.calls) (count b.calls) (count c.calls) place negated o l h i j k
      (λ e. left-stands (flag_of of) two e) (λ e. right-stands (flag_of of) two (left-stands (flag_of low) (flag_of high) e)) (λ e. right-stands (flag_of of) two (right-stands (flag_of low) (flag_of high) e)) (sum-three a.calls b.calls c.calls))))

  pub one-of-kept : (place : ℕ) (negated : Bool) (operand : ExprBinding) (list : List Constant) (calls : List ℕ) → OfExpr operand calls
      → OfAnswer (IsPart view (flag_of operand) (count calls)) (operand.part view >>= (λ of. constants_from view (Ok []) list >>= parts.one_of view place negated of))
  one-of-kept place negated operand list calls p =
      on-answer (IsPart view (flag_of operand) (count calls)) (IsPart view (flag_of operand) (count calls)) (operand.part view) (λ (of : Part). constants_from view (Ok []) list >>= parts.one_of view place negated of) (p.part view sees)
      (λ of i. on-answer (AreListed view) (IsPart view (flag_of operand) (count calls)) (constants_from view (Ok []) list) (parts.one_of view place negated of) (constants-listed view (Ok []) list tt)
      (λ constants j. one-of-part view (flag_of operand) (count calls) place negated of constants i j))

  pub never : (P : Part → Type 0) (place : ℕ) (operand : ExprBinding) (query : SelectBinding) → OfAnswer P (operand.part view >>= (λ of. query.select view >>= misplaced place query.place of))
  never P place operand query =
      behind-any P (operand.part view) (λ (of : Part). query.select view >>= misplaced place query.place of)
      (λ of. behind-any P (query.select view) (misplaced place query.place of) (λ select. behind-any P (matched place query.place of.tree select) _ (λ kind. tt)))

  -- ---- WHERE

  pub plainly : (f : Bool) (n : ℕ → ℕ) (m : Answer Part) → view.aggregates ≡ false → OfAnswer (IsPart view f n) m → OfAnswer (IsOperand view.limit (columns_of view.tables) (kinds view)) (m >>= plain_operand)
  plainly f n m off h =
      on-answer (IsPart view f n) (IsOperand view.limit (columns_of view.tables) (kinds view)) m plain_operand h
      (λ part is. plain-formed view.limit (columns_of view.tables) (kinds view) part (part-expr view f n part is (no-calls view f part.calls off is.calls)))

  pub member-kept : (place : ℕ) (negated : Bool) (operand : ExprBinding) (query : SelectBinding) (calls : List ℕ) → view.aggregates ≡ false → OfExpr operand calls → OfSelect query
      → OfAnswer (IsOperand view.limit (columns_of view.tables) (kinds view)) (operand.part view >>= (λ of. query.select view >>= member place query.place negated of))
  member-kept place negated operand query calls off p s =
      let f = flag_of operand in
      let Q = IsOperand view.limit (columns_of view.tables) (kinds view) in
      on-answer (IsPart view f (count calls)) Q (operand.part view) (λ (of : Part). query.select view >>= member place query.place negated of) (p.part view sees)
      (λ of is. on-answer (IsSelected view.limit (columns_of view.tables)) Q (query.select view) (member place query.place negated of) (s view sees.tables)
      (λ select formed. member-formed view.limit (columns_of view.tables) (kinds view) place query.place negated of select (part-expr view f (count calls) of is (no-calls view f of.calls off is.calls)) formed))

  pub begun-kept : (m : Answer FilterOperand) → OfAnswer (IsOperand view.limit (columns_of view.tables) (kinds view)) m → OfAnswer (IsFilter view.limit (columns_of view.tables) (kinds view)) (m >>= begun)
  begun-kept m h = on-answer (IsOperand view.limit (columns_of view.tables) (kinds view)) (IsFilter view.limit (columns_of view.tables) (kinds view)) m begun h (λ operand is. begun-formed view.limit (columns_of view.tables) (kinds view) operand is)

  filters-kept : (m : Answer _) (others : List OperandBinding) (cs : List Placed) → view.aggregates ≡ false → EachOf OfOperand others cs → OfAnswer (IsFilter view.limit (columns_of view.tables) (kinds view)) m
      → OfAnswer (IsFilter view.limit (columns_of view.tables) (kinds view)) (each (rules.filtered view) m others)
  filters-kept m [] cs off all h = h
  filters-kept m (o ∷ others) [] off all h = absurd all
  filters-kept m (o ∷ others) (c ∷ cs) off all h =
      let F = IsFilter view.limit (columns_of view.tables) (kinds view) in
      filters-kept (m >>= rules.filtered view o) others cs off all.1
      (on-answer F F m (rules.filtered view o) h
      (λ before i. on-answer (IsOperand view.limit (columns_of view.tables) (kinds view)) F (o.right.operand view) (joined o.place before) (all.0.operand view sees off)
      (λ operand j. joined-formed view.limit (columns_of view.tables) (kinds view) o.place before operand i j)))

  pub every-filter : (first : ExprBinding) (fc : Placed) (others : List OperandBinding) (cs : List Placed) → view.aggregates ≡ false → OfExpr first fc.calls → EachOf OfOperand others cs
      → OfAnswer (IsFilter view.limit (columns_of view.tables) (kinds view)) (first.operand view >>= begun >>= rules.filter_behind view others)
  every-filter first fc others cs off of all =
      on-answer (IsFilter view.limit (columns_of view.tables) (kinds view)) (IsFilter view.limit (columns_of view.tables) (kinds view)) (first.operand view >>= begun) (rules.filter_behind view others)
      (begun-kept (first.operand view) (of.operand view sees off)) (λ before h. filters-kept (Ok before) others cs off all h)

-- ---- calls

pub star-kept : (view : View) (name : Span) → OfAnswer (IsPart view (is_some (function_of (folded_at view.script name)) || false) (count (name.start ∷ []))) (star_call view name.start (function_of (folded_at view.script name)))
star-kept view name =
    let function = function_of (folded_at view.script name) in
    star-part view (is_some function || false) (count (name.start ∷ [])) name.start function (λ at. omega arith) (λ e. left-stands (is_some function) false e)

argument-sees : (view : View) → IsView view → IsView (without_aggregates view)
argument-sees view sees = record { tables = sees.tables; proper = sees.proper }

pub value-kept : (view : View) (place : ℕ) (function : Option Function) (value : ExprBinding) (calls : List ℕ) → IsView view → OfExpr value calls
    → OfAnswer (IsPart view (is_some function || value.aggregates view.script) (count (place ∷ []))) (value.part (argument_view function view) >>= value_call view place function)
value-kept view place None value calls sees of = behind-any (IsPart view (value.aggregates view.script) (count (place ∷ []))) (value.part view) (value_call view place None) (λ p. tt)
value-kept view place (Some function) value calls sees of =
    on-answer (IsPart (without_aggregates view) (value.aggregates view.script) (count calls)) (IsPart view true (count (place ∷ []))) (value.part (without_aggregates view)) (value_call view place (Some function))
    (of.part (without_aggregates view) (argument-sees view sees)) (λ p is. value-part view true (value.aggregates view.script) (count (place ∷ [])) (count calls) place function p is (λ at. omega arith) refl)

pub distinct-kept : (view : View) (place : ℕ) (function : Option Function) (value : ExprBinding) (calls : List ℕ) → IsView view → OfExpr value calls
    → OfAnswer (IsPart view (is_some function || value.aggregates view.script) (count (place ∷ []))) (value.part (argument_view function view) >>= distinct_call view place function)
distinct-kept view place None value calls sees of = behind-any (IsPart view (value.aggregates view.script) (count (place ∷ []))) (value.part view) (distinct_call view place None) (λ p. tt)
distinct-kept view place (Some function) value calls sees of =
    on-answer (IsPart (without_aggregates view) (value.aggregates view.script) (count calls)) (IsPart view true (count (place ∷ []))) (value.part (without_aggregates view)) (distinct_call view place (Some function))
    (of.part (without_aggregates view) (argument-sees view sees)) (λ p is. distinct-part view true (value.aggregates view.script) (count (place ∷ [])) (count calls) place function p is (λ at. omega arith) refl)
