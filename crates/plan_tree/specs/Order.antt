-- The order in which the tables of a free FROM are joined.
use Rattle.std.specs.Prelude.{ℕ, zero, suc, ◌+◌, Bool, true, false, ◌&&◌, ◌||◌, nat_lt, nat_le, List, [], ◌∷◌, ◌++◌, take, drop}
use Rattle.std.specs.List.{list_any, range_with_len}
use Rattle.plan_tree.specs.declared.parts.Entry.{Entry}
use Rattle.plan_tree.specs.declared.parts.Linked.{Linked}

-- the column is one of the table's
abbrev pub has_column : ℕ → Entry → Bool
has_column column entry = nat_le entry.start column && nat_lt column (entry.start + entry.width)

-- an equality of two columns links the table to one of these
abbrev pub links : List Entry → Entry → Linked → Bool
links placed entry two =
    (has_column two.left entry && list_any (has_column two.right) placed) || (has_column two.right entry && list_any (has_column two.left) placed)

abbrev pub is_linked : List Linked → List Entry → Entry → Bool
is_linked pool placed entry = list_any (links placed entry) pool

-- one that is linked comes before one that isn't, and else the one of fewer rows
abbrev pub linked_first : Bool → Bool → ℕ → ℕ → Bool
linked_first true true a b = nat_lt a b
linked_first true false a b = true
linked_first false true a b = false
linked_first false false a b = nat_lt a b

-- Whether the first table comes before the second: the first of all is the one of most rows.
abbrev pub comes_before : List Linked → List Entry → Entry → Entry → Bool
comes_before pool [] a b = nat_lt b.rows a.rows
comes_before pool (entry ∷ placed) a b = linked_first (is_linked pool (entry ∷ placed) a) (is_linked pool (entry ∷ placed) b) a.rows b.rows

-- an item of a list, with what stands before and behind it
pub record Pick (A : Type 0) : Type 0 where
  pub front : List A
  pub item : A
  pub back : List A

abbrev pub kept_or : {A : Type 0} → Bool → A → List A → Pick A → Pick A
kept_or true x xs rest = record { front = x ∷ rest.front; item = rest.item; back = rest.back }
kept_or false x xs rest = record { front = []; item = x; back = xs }

-- the first item before which no other comes; the earlier on ties
abbrev pub pick : {A : Type 0} → (A → A → Bool) → A → List A → Pick A
pick before x [] = record { front = []; item = x; back = [] }
pick before x (y ∷ ys) = kept_or (before (pick before y ys).item x) x (y ∷ ys) (pick before y ys)

-- again and again one of those that are left, at most n times
abbrev pub picks : ℕ → List Linked → List Entry → List Entry → List (Pick Entry)
picks zero pool placed left = []
picks (suc n) pool placed [] = []
picks (suc n) pool placed (x ∷ xs) =
    let one = pick (comes_before pool placed) x xs in
    one ∷ picks n pool (placed ++ one.item ∷ []) (one.front ++ one.back)

abbrev pub columns_in : List Entry → ℕ
columns_in [] = 0
columns_in (entry ∷ entries) = entry.width + columns_in entries

-- Where the written columns stand in the plan's row, whose first column here is this one.
abbrev pub places_of_picks : ℕ → List (Pick Entry) → List ℕ
places_of_picks at [] = []
places_of_picks at (one ∷ more) =
    take (columns_in one.front) (places_of_picks (at + one.item.width) more)
    ++ (range_with_len at one.item.width ++ drop (columns_in one.front) (places_of_picks (at + one.item.width) more))
