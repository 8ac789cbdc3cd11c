-- One token of look ahead is enough for each rule of the grammar.
use Rattle.std.proofs.Common.{◌≡◌, ℕ, List, ◌∷◌, ◌++◌, true, refl}
use Rattle.sql_lex.specs.declared.token.Word.TheVariants as w
use Rattle.sql_lex.specs.declared.token.Sign.TheVariants as s
use Rattle.sql_grammar.specs.Form.{Sort, an_expr, a_neg, a_unary, an_argument, a_select}
use Rattle.sql_grammar.specs.Sound.{goes_on, alive, within, is_sound}
use Rattle.sql_grammar.specs.Classes.{word_class, sign_class, opens, text_class, names}
use Rattle.sql_grammar.specs.Expressions as e
use Rattle.sql_grammar.specs.Selects as q
use Rattle.sql_grammar.specs.Statements as t
use Rattle.sql_grammar.specs.Nesting.{body}

-- with which classes each rule that nests may go on
abbrev pub unary_last : List ℕ
unary_last = sign_class s.Dot ∷ text_class ∷ opens

abbrev pub neg_last : List ℕ
neg_last = sign_class s.Star ∷ sign_class s.Quotient ∷ sign_class s.Remainder ∷ sign_class s.Plus ∷ sign_class s.Minus
    ∷ sign_class s.Equal ∷ sign_class s.Unequal ∷ sign_class s.Less ∷ sign_class s.AtMost ∷ sign_class s.Greater ∷ sign_class s.AtLeast
    ∷ word_class w.Is ∷ word_class w.Not ∷ word_class w.Like ∷ word_class w.In ∷ word_class w.Between ∷ unary_last

abbrev pub expr_last : List ℕ
expr_last = word_class w.And ∷ word_class w.Or ∷ neg_last

abbrev pub select_last : List ℕ
select_last = word_class w.As ∷ word_class w.Where ∷ word_class w.Group ∷ word_class w.Having ∷ word_class w.Order ∷ word_class w.Limit ∷ word_class w.Offset
    ∷ word_class w.Inner ∷ word_class w.Left ∷ word_class w.Join ∷ word_class w.Cross ∷ word_class w.Union ∷ word_class w.Except ∷ word_class w.Intersect
    ∷ word_class w.Asc ∷ word_class w.Desc ∷ sign_class s.Comma ∷ names ++ expr_last

abbrev pub last : Sort → List ℕ
last an_expr = expr_last
last a_neg = neg_last
last a_unary = unary_last
last an_argument = expr_last
last a_select = select_last

pub last_is : (s : Sort) → within (goes_on last (body s)) (last s) ≡ true
unfolding e.plain_literal e.date e.literal e.column_name e.name_end e.named e.dated e.group e.atom e.unary e.term_sign e.term_link e.term e.sum_sign e.sum_link e.sum e.compare_sign e.comparison e.null_test e.like e.member e.one_of e.in_test e.between e.constant e.range_test e.after_sum e.pred e.neg e.and_operand e.conj e.or_operand e.expr e.argument q.value_item q.item q.alias q.condition q.subquery_source q.source q.join_word q.join_on q.join_cross q.join q.sources q.direction q.key_column q.key q.grouping q.ordering q.limit q.offset q.core q.intersect q.operand q.set_operand q.rows q.select
last_is an_expr = refl
last_is a_neg = refl
last_is a_unary = refl
last_is an_argument = refl
last_is a_select = refl

pub body_alive : (s : Sort) → alive (body s) ≡ true
unfolding e.plain_literal e.date e.literal e.column_name e.name_end e.named e.dated e.group e.atom e.unary e.term_sign e.term_link e.term e.sum_sign e.sum_link e.sum e.compare_sign e.comparison e.null_test e.like e.member e.one_of e.in_test e.between e.constant e.range_test e.after_sum e.pred e.neg e.and_operand e.conj e.or_operand e.expr e.argument q.value_item q.item q.alias q.condition q.subquery_source q.source q.join_word q.join_on q.join_cross q.join q.sources q.direction q.key_column q.key q.grouping q.ordering q.limit q.offset q.core q.intersect q.operand q.set_operand q.rows q.select
body_alive an_expr = refl
body_alive a_neg = refl
body_alive a_unary = refl
body_alive an_argument = refl
body_alive a_select = refl

pub body_sound : (s : Sort) → is_sound last (body s) ≡ true
unfolding e.plain_literal e.date e.literal e.column_name e.name_end e.named e.dated e.group e.atom e.unary e.term_sign e.term_link e.term e.sum_sign e.sum_link e.sum e.compare_sign e.comparison e.null_test e.like e.member e.one_of e.in_test e.between e.constant e.range_test e.after_sum e.pred e.neg e.and_operand e.conj e.or_operand e.expr e.argument q.value_item q.item q.alias q.condition q.subquery_source q.source q.join_word q.join_on q.join_cross q.join q.sources q.direction q.key_column q.key q.grouping q.ordering q.limit q.offset q.core q.intersect q.operand q.set_operand q.rows q.select
body_sound an_expr = refl
body_sound a_neg = refl
body_sound a_unary = refl
body_sound an_argument = refl
body_sound a_select = refl

pub script_sound : is_sound last t.script ≡ true
unfolding e.plain_literal e.date e.literal e.column_name e.name_end e.named e.dated e.group e.atom e.unary e.term_sign e.term_link e.term e.sum_sign e.sum_link e.sum e.compare_sign e.comparison e.null_test e.like e.member e.one_of e.in_test e.between e.constant e.range_test e.after_sum e.pred e.neg e.and_operand e.conj e.or_operand e.expr e.argument q.value_item q.item q.alias q.condition q.subquery_source q.source q.join_word q.join_on q.join_cross q.join q.sources q.direction q.key_column q.key q.grouping q.ordering q.limit q.offset q.core q.intersect q.operand q.set_operand q.rows q.select t.sizes t.type_name t.not_null t.column t.truth t.option t.options t.create t.drop t.copy t.statement t.script
script_sound = refl

pub script_alive : alive t.script ≡ true
unfolding e.plain_literal e.date e.literal e.column_name e.name_end e.named e.dated e.group e.atom e.unary e.term_sign e.term_link e.term e.sum_sign e.sum_link e.sum e.compare_sign e.comparison e.null_test e.like e.member e.one_of e.in_test e.between e.constant e.range_test e.after_sum e.pred e.neg e.and_operand e.conj e.or_operand e.expr e.argument q.value_item q.item q.alias q.condition q.subquery_source q.source q.join_word q.join_on q.join_cross q.join q.sources q.direction q.key_column q.key q.grouping q.ordering q.limit q.offset q.core q.intersect q.operand q.set_operand q.rows q.select t.sizes t.type_name t.not_null t.column t.truth t.option t.options t.create t.drop t.copy t.statement t.script
script_alive = refl
