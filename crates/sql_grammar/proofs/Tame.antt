-- Where an item may be `name "." "*"`, an expression stops at the `*`. No other rule has such a choice.
use Rattle.std.proofs.Common.{◌≡◌, ◌==◌, ℕ, List, [], ◌∷◌, Err, Bool, true, false, refl, sym, ap, subst, arith, if◌then◌else◌}
use Rattle.sql_lex.specs.declared.token.Sign.TheVariants as s
use Rattle.sql_grammar.specs.Lexeme.{Lexeme, is_among}
use Rattle.sql_grammar.specs.declared.fault.Fault.TheVariants.{Syntax}
use Rattle.sql_grammar.specs.Form.{Sort, Form, empty, one, both, either, many, nest, marked, phrase, an_expr, a_neg, a_unary, an_argument, a_select}
use Rattle.sql_grammar.specs.Reading.{Readers, read}
use Rattle.sql_grammar.specs.Sound.{◌and◌}
use Rattle.sql_grammar.specs.Classes.{sign_class, names}
use Rattle.sql_grammar.specs.Expressions as e
use Rattle.sql_grammar.specs.Selects as q
use Rattle.sql_grammar.specs.Statements as t
use Rattle.sql_grammar.specs.Nesting.{body}
use Rattle.sql_grammar.proofs.Sets.{left_of, right_of}
use Rattle.sql_grammar.proofs.Forms.{IsTame}

-- no choice of that kind
abbrev pub is_plain : {A : Type 0} → Form A → Bool
is_plain (both f p q) = is_plain p and is_plain q
is_plain (either p q) = is_plain p and is_plain q
is_plain (many p) = is_plain p
is_plain (marked f p) = is_plain p
is_plain (phrase classes two three f p) = false
is_plain _ = true

pub plain : {A : Type 0} (n : Readers) (p : Form A) → is_plain p ≡ true → IsTame n p
plain n (empty a) e = tt
plain n (one classes f) e = tt
plain n (both f p q) e = (plain n p (left_of (is_plain p) (is_plain q) e), plain n q (right_of (is_plain p) (is_plain q) e))
plain n (either p q) e = (plain n p (left_of (is_plain p) (is_plain q) e), plain n q (right_of (is_plain p) (is_plain q) e))
plain n (many p) e = plain n p e
plain n (nest openers s f) e = tt
plain n (marked f p) e = plain n p e
plain n (phrase classes two three f p) e = cc

-- a token with this class in place of its own
abbrev at_class : ℕ → Lexeme → Lexeme
at_class k x = record { class = k; start = x.start; end = x.end }

same : (c k : ℕ) → (c == k) ≡ true → c ≡ k
same c k e = grind arith

alone : (x : Lexeme) (k : ℕ) → is_among x.class (k ∷ []) ≡ true → x ≡ at_class k x
alone x k e = go (x.class == k) refl e
  where
    go : (b : Bool) → (x.class == k) ≡ b → (if b then true else false) ≡ true → x ≡ at_class k x
    go true h f = ap (λ k. at_class k x) (same x.class k h)
    go false h f = cc

module _ (n : Readers) where
  -- at each class of names
  stops_at : (k : ℕ) → Type 0
  stops_at k = (x y z : Lexeme) (r : List Lexeme) → read n q.value_item (at_class k x ∷ at_class (sign_class s.Dot) y ∷ at_class (sign_class s.Star) z ∷ r) ≡ Err (Syntax, at_class (sign_class s.Star) z ∷ r)

  stops_0 : stops_at 67
  unfolding stops_at e.plain_literal e.date e.literal e.column_name e.name_end e.named e.dated e.group e.atom e.unary e.term_sign e.term_link e.term e.sum_sign e.sum_link e.sum e.compare_sign e.comparison e.null_test e.like e.member e.one_of e.in_test e.between e.constant e.range_test e.after_sum e.pred e.neg e.and_operand e.conj e.or_operand e.expr q.alias q.value_item
  stops_0 x y z r = refl

  stops_1 : stops_at 60
  unfolding stops_at e.plain_literal e.date e.literal e.column_name e.name_end e.named e.dated e.group e.atom e.unary e.term_sign e.term_link e.term e.sum_sign e.sum_link e.sum e.compare_sign e.comparison e.null_test e.like e.member e.one_of e.in_test e.between e.constant e.range_test e.after_sum e.pred e.neg e.and_operand e.conj e.or_operand e.expr q.alias q.value_item
  stops_1 x y z r = refl

  stops_2 : stops_at 61
  unfolding stops_at e.plain_literal e.date e.literal e.column_name e.name_end e.named e.dated e.group e.atom e.unary e.term_sign e.term_link e.term e.sum_sign e.sum_link e.sum e.compare_sign e.comparison e.null_test e.like e.member e.one_of e.in_test e.between e.constant e.range_test e.after_sum e.pred e.neg e.and_operand e.conj e.or_operand e.expr q.alias q.value_item
  stops_2 x y z r = refl

  stops_3 : stops_at 62
  unfolding stops_at e.plain_literal e.date e.literal e.column_name e.name_end e.named e.dated e.group e.atom e.unary e.term_sign e.term_link e.term e.sum_sign e.sum_link e.sum e.compare_sign e.comparison e.null_test e.like e.member e.one_of e.in_test e.between e.constant e.range_test e.after_sum e.pred e.neg e.and_operand e.conj e.or_operand e.expr q.alias q.value_item
  stops_3 x y z r = refl

  stops_4 : stops_at 63
  unfolding stops_at e.plain_literal e.date e.literal e.column_name e.name_end e.named e.dated e.group e.atom e.unary e.term_sign e.term_link e.term e.sum_sign e.sum_link e.sum e.compare_sign e.comparison e.null_test e.like e.member e.one_of e.in_test e.between e.constant e.range_test e.after_sum e.pred e.neg e.and_operand e.conj e.or_operand e.expr q.alias q.value_item
  stops_4 x y z r = refl

  stops : (x y z : Lexeme) (r : List Lexeme) → is_among x.class names ≡ true → is_among y.class (sign_class s.Dot ∷ []) ≡ true → is_among z.class (sign_class s.Star ∷ []) ≡ true → read n q.value_item (x ∷ y ∷ z ∷ r) ≡ Err (Syntax, z ∷ r)
  unfolding stops_at
  stops x y z r hx hy hz =
      let ey : y ≡ at_class (sign_class s.Dot) y = alone y (sign_class s.Dot) hy in
      let ez : z ≡ at_class (sign_class s.Star) z = alone z (sign_class s.Star) hz in
      subst (λ y. read n q.value_item (x ∷ y ∷ z ∷ r) ≡ Err (Syntax, z ∷ r)) (sym ey)
      (subst (λ z. read n q.value_item (x ∷ at_class (sign_class s.Dot) y ∷ z ∷ r) ≡ Err (Syntax, z ∷ r)) (sym ez)
      (by_class (x.class == 67) (x.class == 60) (x.class == 61) (x.class == 62) (x.class == 63) refl refl refl refl refl hx))
    where
      is_class : (k : ℕ) → (x.class == k) ≡ true → x ≡ at_class k x
      is_class k h = ap (λ k. at_class k x) (same x.class k h)

      at : (k : ℕ) → (x.class == k) ≡ true → stops_at k → read n q.value_item (x ∷ at_class (sign_class s.Dot) y ∷ at_class (sign_class s.Star) z ∷ r) ≡ Err (Syntax, at_class (sign_class s.Star) z ∷ r)
      at k h g = subst (λ x. read n q.value_item (x ∷ at_class (sign_class s.Dot) y ∷ at_class (sign_class s.Star) z ∷ r) ≡ Err (Syntax, at_class (sign_class s.Star) z ∷ r)) (sym (is_class k h)) (g x y z r)

      by_class : (a b c d e : Bool) → (x.class == 67) ≡ a → (x.class == 60) ≡ b → (x.class == 61) ≡ c → (x.class == 62) ≡ d → (x.class == 63) ≡ e
          → (if a then true else if b then true else if c then true else if d then true else if e then true else false) ≡ true
          → read n q.value_item (x ∷ at_class (sign_class s.Dot) y ∷ at_class (sign_class s.Star) z ∷ r) ≡ Err (Syntax, at_class (sign_class s.Star) z ∷ r)
      by_class true b c d e ha hb hc hd he h = at 67 ha stops_0
      by_class false true c d e ha hb hc hd he h = at 60 hb stops_1
      by_class false false true d e ha hb hc hd he h = at 61 hc stops_2
      by_class false false false true e ha hb hc hd he h = at 62 hd stops_3
      by_class false false false false true ha hb hc hd he h = at 63 he stops_4
      by_class false false false false false ha hb hc hd he h = cc

  value_item_tame : IsTame n q.value_item
  unfolding e.plain_literal e.date e.literal e.column_name e.name_end e.named e.dated e.group e.atom e.unary e.term_sign e.term_link e.term e.sum_sign e.sum_link e.sum e.compare_sign e.comparison e.null_test e.like e.member e.one_of e.in_test e.between e.constant e.range_test e.after_sum e.pred e.neg e.and_operand e.conj e.or_operand e.expr q.alias q.value_item
  value_item_tame = plain n q.value_item refl

  item_tame : IsTame n q.item
  unfolding q.item
  item_tame = (tt, (value_item_tame, stops))

  taken_rows_tame : IsTame n q.taken_rows
  unfolding e.plain_literal e.date e.literal e.column_name e.name_end e.named e.dated e.group e.atom e.unary e.term_sign e.term_link e.term e.sum_sign e.sum_link e.sum e.compare_sign e.comparison e.null_test e.like e.member e.one_of e.in_test e.between e.constant e.range_test e.after_sum e.pred e.neg e.and_operand e.conj e.or_operand e.expr q.alias q.condition q.subquery_source q.source q.join_word q.join_on q.join_cross q.join q.sources q.direction q.key_column q.key q.grouping q.ordering q.limit q.offset
  taken_rows_tame = plain n q.taken_rows refl

  window_tame : IsTame n q.window
  unfolding e.plain_literal e.date e.literal e.column_name e.name_end e.named e.dated e.group e.atom e.unary e.term_sign e.term_link e.term e.sum_sign e.sum_link e.sum e.compare_sign e.comparison e.null_test e.like e.member e.one_of e.in_test e.between e.constant e.range_test e.after_sum e.pred e.neg e.and_operand e.conj e.or_operand e.expr q.alias q.condition q.subquery_source q.source q.join_word q.join_on q.join_cross q.join q.sources q.direction q.key_column q.key q.grouping q.ordering q.limit q.offset
  window_tame = plain n q.window refl

  core_tame : IsTame n q.core
  unfolding q.core
  core_tame = ((tt, plain n q.core_head refl), ((tt, (((tt, item_tame), (tt, item_tame)), tt)), taken_rows_tame))

  operand_tame : IsTame n q.operand
  unfolding q.intersect q.operand
  operand_tame = ((tt, core_tame), ((tt, plain n q.intersect_head refl), core_tame))

  select_tame : IsTame n q.select
  unfolding q.set_operand q.rows q.select
  select_tame = ((tt, ((tt, operand_tame), ((tt, plain n q.set_head refl), operand_tame))), window_tame)

  pub body_tame : (s : Sort) → IsTame n (body s)
  unfolding e.plain_literal e.date e.literal e.column_name e.name_end e.named e.dated e.group e.atom e.unary e.term_sign e.term_link e.term e.sum_sign e.sum_link e.sum e.compare_sign e.comparison e.null_test e.like e.member e.one_of e.in_test e.between e.constant e.range_test e.after_sum e.pred e.neg e.and_operand e.conj e.or_operand e.expr e.argument
  body_tame an_expr = plain n e.expr refl
  body_tame a_neg = plain n e.neg refl
  body_tame a_unary = plain n e.unary refl
  body_tame an_argument = plain n e.argument refl
  body_tame a_select = select_tame

  others_tame : IsTame n t.create × IsTame n t.drop × IsTame n t.copy
  unfolding t.sizes t.type_name t.not_null t.column t.truth t.option t.options t.create t.drop t.copy
  others_tame = (plain n t.create refl, plain n t.drop refl, plain n t.copy refl)

  statement_tame : IsTame n t.statement
  unfolding t.statement
  statement_tame = (others_tame.0, (others_tame.1, (others_tame.2, ((tt, (tt, select_tame)), (tt, select_tame)))))

  pub script_tame : IsTame n t.script
  unfolding t.script
  script_tame = ((tt, ((tt, statement_tame), tt)), (tt, ((tt, statement_tame), tt)))
