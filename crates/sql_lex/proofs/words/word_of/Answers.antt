-- Each letter's words are those that the table has with it.
use Rattle.std.proofs.Common.{◌≡◌, Some, None, codes, arith, refl, sym}
use Rattle.std.specs.Prelude.{if◌then◌else◌}
use Rattle.std.specs.Str.{bytes_eq}
use Rattle.sql_lex.specs.declared.token.Word.TheVariants.{All, And, As, Asc, Between, By, Copy, Create, Cross, Desc, Distinct, Drop, Except, Explain, False, From, Group, Having, In, Inner, Intersect, Is, Join, Left, Like, Limit, Not, Null, Offset, On, Or, Order, Outer, Select, Table, True, Union, Where}
use Rattle.sql_lex.specs.Words.{word_spelled}
use Rattle.sql_lex.proofs.WordsLemmas.{by_letter, no_word}
use Rattle.sql_lex.proofs.words.word_of.Goals as goal

pub returns-in-97 : goal.returns-in-97
unfolding word_spelled
returns-in-97 c = rw (c.spelled_or-in-97-3.ensures, c.spelled_or-in-97-2.ensures, c.spelled_or-in-97.ensures, c.spelled_or.ensures)
    (by_letter 97 (λ w. (if bytes_eq w (codes "all") then Some All else (if bytes_eq w (codes "and") then Some And else (if bytes_eq w (codes "as") then Some As else (if bytes_eq w (codes "asc") then Some Asc else None)))) ≡ word_spelled w) (λ rest. refl) _ _ c.in_ok-first.ensures.value (omega arith))

pub returns-in-98 : goal.returns-in-98
unfolding word_spelled
returns-in-98 c = rw (c.spelled_or-in-98-2.ensures, c.spelled_or-in-98.ensures)
    (by_letter 98 (λ w. (if bytes_eq w (codes "between") then Some Between else (if bytes_eq w (codes "by") then Some By else None)) ≡ word_spelled w) (λ rest. refl) _ _ c.in_ok-first.ensures.value (omega arith))

pub returns-in-99 : goal.returns-in-99
unfolding word_spelled
returns-in-99 c = rw (c.spelled_or-in-99-3.ensures, c.spelled_or-in-99-2.ensures, c.spelled_or-in-99.ensures)
    (by_letter 99 (λ w. (if bytes_eq w (codes "copy") then Some Copy else (if bytes_eq w (codes "create") then Some Create else (if bytes_eq w (codes "cross") then Some Cross else None))) ≡ word_spelled w) (λ rest. refl) _ _ c.in_ok-first.ensures.value (omega arith))

pub returns-in-100 : goal.returns-in-100
unfolding word_spelled
returns-in-100 c = rw (c.spelled_or-in-100-3.ensures, c.spelled_or-in-100-2.ensures, c.spelled_or-in-100.ensures)
    (by_letter 100 (λ w. (if bytes_eq w (codes "desc") then Some Desc else (if bytes_eq w (codes "distinct") then Some Distinct else (if bytes_eq w (codes "drop") then Some Drop else None))) ≡ word_spelled w) (λ rest. refl) _ _ c.in_ok-first.ensures.value (omega arith))

pub returns-in-101 : goal.returns-in-101
unfolding word_spelled
returns-in-101 c = rw (c.spelled_or-in-101-2.ensures, c.spelled_or-in-101.ensures)
    (by_letter 101 (λ w. (if bytes_eq w (codes "except") then Some Except else (if bytes_eq w (codes "explain") then Some Explain else None)) ≡ word_spelled w) (λ rest. refl) _ _ c.in_ok-first.ensures.value (omega arith))

pub returns-in-102 : goal.returns-in-102
unfolding word_spelled
returns-in-102 c = rw (c.spelled_or-in-102-2.ensures, c.spelled_or-in-102.ensures)
    (by_letter 102 (λ w. (if bytes_eq w (codes "false") then Some False else (if bytes_eq w (codes "from") then Some From else None)) ≡ word_spelled w) (λ rest. refl) _ _ c.in_ok-first.ensures.value (omega arith))

pub returns-in-103 : goal.returns-in-103
unfolding word_spelled
returns-in-103 c = rw (c.spelled_or-in-103.ensures)
    (by_letter 103 (λ w. (if bytes_eq w (codes "group") then Some Group else None) ≡ word_spelled w) (λ rest. refl) _ _ c.in_ok-first.ensures.value (omega arith))

pub returns-in-104 : goal.returns-in-104
unfolding word_spelled
returns-in-104 c = rw (c.spelled_or-in-104.ensures)
    (by_letter 104 (λ w. (if bytes_eq w (codes "having") then Some Having else None) ≡ word_spelled w) (λ rest. refl) _ _ c.in_ok-first.ensures.value (omega arith))

pub returns-in-105 : goal.returns-in-105
unfolding word_spelled
returns-in-105 c = rw (c.spelled_or-in-105-4.ensures, c.spelled_or-in-105-3.ensures, c.spelled_or-in-105-2.ensures, c.spelled_or-in-105.ensures)
    (by_letter 105 (λ w. (if bytes_eq w (codes "in") then Some In else (if bytes_eq w (codes "inner") then Some Inner else (if bytes_eq w (codes "intersect") then Some Intersect else (if bytes_eq w (codes "is") then Some Is else None)))) ≡ word_spelled w) (λ rest. refl) _ _ c.in_ok-first.ensures.value (omega arith))

pub returns-in-106 : goal.returns-in-106
unfolding word_spelled
returns-in-106 c = rw (c.spelled_or-in-106.ensures)
    (by_letter 106 (λ w. (if bytes_eq w (codes "join") then Some Join else None) ≡ word_spelled w) (λ rest. refl) _ _ c.in_ok-first.ensures.value (omega arith))

pub returns-in-108 : goal.returns-in-108
unfolding word_spelled
returns-in-108 c = rw (c.spelled_or-in-108-3.ensures, c.spelled_or-in-108-2.ensures, c.spelled_or-in-108.ensures)
    (by_letter 108 (λ w. (if bytes_eq w (codes "left") then Some Left else (if bytes_eq w (codes "like") then Some Like else (if bytes_eq w (codes "limit") then Some Limit else None))) ≡ word_spelled w) (λ rest. refl) _ _ c.in_ok-first.ensures.value (omega arith))

pub returns-in-110 : goal.returns-in-110
unfolding word_spelled
returns-in-110 c = rw (c.spelled_or-in-110-2.ensures, c.spelled_or-in-110.ensures)
    (by_letter 110 (λ w. (if bytes_eq w (codes "not") then Some Not else (if bytes_eq w (codes "null") then Some Null else None)) ≡ word_spelled w) (λ rest. refl) _ _ c.in_ok-first.ensures.value (omega arith))

pub returns-in-111 : goal.returns-in-111
unfolding word_spelled
returns-in-111 c = rw (c.spelled_or-in-111-5.ensures, c.spelled_or-in-111-4.ensures, c.spelled_or-in-111-3.ensures, c.spelled_or-in-111-2.ensures, c.spelled_or-in-111.ensures)
    (by_letter 111 (λ w. (if bytes_eq w (codes "offset") then Some Offset else (if bytes_eq w (codes "on") then Some On else (if bytes_eq w (codes "or") then Some Or else (if bytes_eq w (codes "order") then Some Order else (if bytes_eq w (codes "outer") then Some Outer else None))))) ≡ word_spelled w) (λ rest. refl) _ _ c.in_ok-first.ensures.value (omega arith))

pub returns-in-115 : goal.returns-in-115
unfolding word_spelled
returns-in-115 c = rw (c.spelled_or-in-115.ensures)
    (by_letter 115 (λ w. (if bytes_eq w (codes "select") then Some Select else None) ≡ word_spelled w) (λ rest. refl) _ _ c.in_ok-first.ensures.value (omega arith))

pub returns-in-116 : goal.returns-in-116
unfolding word_spelled
returns-in-116 c = rw (c.spelled_or-in-116-2.ensures, c.spelled_or-in-116.ensures)
    (by_letter 116 (λ w. (if bytes_eq w (codes "table") then Some Table else (if bytes_eq w (codes "true") then Some True else None)) ≡ word_spelled w) (λ rest. refl) _ _ c.in_ok-first.ensures.value (omega arith))

pub returns-in-117 : goal.returns-in-117
unfolding word_spelled
returns-in-117 c = rw (c.spelled_or-in-117.ensures)
    (by_letter 117 (λ w. (if bytes_eq w (codes "union") then Some Union else None) ≡ word_spelled w) (λ rest. refl) _ _ c.in_ok-first.ensures.value (omega arith))

pub returns-in-119 : goal.returns-in-119
unfolding word_spelled
returns-in-119 c = rw (c.spelled_or-in-119.ensures)
    (by_letter 119 (λ w. (if bytes_eq w (codes "where") then Some Where else None) ≡ word_spelled w) (λ rest. refl) _ _ c.in_ok-first.ensures.value (omega arith))

pub returns-in_default : goal.returns-in_default
returns-in_default c =
    by_letter c.to_ascii_lowercase-first.result (λ w. None ≡ word_spelled w)
    (λ rest. sym (no_word c.to_ascii_lowercase-first.result rest (omega arith) (omega arith) (omega arith) (omega arith) (omega arith) (omega arith) (omega arith) (omega arith) (omega arith) (omega arith) (omega arith) (omega arith) (omega arith) (omega arith) (omega arith) (omega arith) (omega arith)))
    _ _ c.in_ok-first.ensures.value (sym c.to_ascii_lowercase-first.ensures.value)
