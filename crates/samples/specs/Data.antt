-- Images and what they are, printed by the second program: tests/samples writes this file anew. Do not edit.
use Rattle.std.specs.Prelude.{ℕ, ◌*◌, List, [], ◌∷◌, ◌++◌, true, false, replicate}
use Rattle.samples.specs.Verdict.{Verdict, Change, Kept, node, row}

-- made: just made: the root is an empty leaf
abbrev pub made_0 : List ℕ
made_0 = 8 ∷ 0 ∷ 0 ∷ 1 ∷ 32 ∷ 0 ∷ 1 ∷ 0 ∷ 1 ∷ []

abbrev pub made_1 : List ℕ
made_1 = 0 ∷ 0 ∷ 1 ∷ 0 ∷ 1 ∷ []

abbrev pub made : List ℕ
made = node made_0 ++ node made_1 ++ replicate (30 * 1024) 0

abbrev pub made_says : Verdict
made_says = record { sound = true; settled = true; used = 2; free = 30; table = [] }

-- one_leaf: a single leaf with pairs
abbrev pub one_leaf_0 : List ℕ
one_leaf_0 = 8 ∷ 0 ∷ 0 ∷ 1 ∷ 32 ∷ 0 ∷ 5 ∷ 0 ∷ 1 ∷ 0 ∷ 5 ∷ []

abbrev pub one_leaf_5 : List ℕ
one_leaf_5 = 62 ∷ 0 ∷ 1 ∷ 0 ∷ 1 ∷ 0 ∷ 0 ∷ 0 ∷ 5 ∷ 0 ∷ 1 ∷ 0 ∷ 2 ∷ 0 ∷ 97 ∷ 0 ∷ 1 ∷ 5 ∷ 0 ∷ 1 ∷ 0 ∷ 3 ∷ 0 ∷ 114 ∷ 49 ∷ 0 ∷ 12 ∷ 0 ∷ 1 ∷ 0 ∷ 9 ∷ 0 ∷ 114 ∷ 49 ∷ 0 ∷ 99 ∷ 55 ∷ 0 ∷ 116 ∷ 49 ∷ 0 ∷ 10 ∷ 11 ∷ 0 ∷ 1 ∷ 0 ∷ 9 ∷ 0 ∷ 114 ∷ 49 ∷ 0 ∷ 99 ∷ 55 ∷ 0 ∷ 116 ∷ 50 ∷ 0 ∷ 9 ∷ 0 ∷ 1 ∷ 0 ∷ 4 ∷ 0 ∷ 114 ∷ 49 ∷ 48 ∷ 0 ∷ 255 ∷ 0 ∷ 33 ∷ []

abbrev pub one_leaf : List ℕ
one_leaf = node one_leaf_0 ++ replicate (4 * 1024) 0 ++ node one_leaf_5 ++ replicate (26 * 1024) 0

abbrev pub one_leaf_says : Verdict
one_leaf_says = record { sound = true; settled = true; used = 2; free = 30; table = row (97 ∷ 0 ∷ []) (1 ∷ []) ∷ row (114 ∷ 49 ∷ 0 ∷ []) [] ∷ row (114 ∷ 49 ∷ 0 ∷ 99 ∷ 55 ∷ 0 ∷ 116 ∷ 49 ∷ 0 ∷ []) (10 ∷ []) ∷ row (114 ∷ 49 ∷ 0 ∷ 99 ∷ 55 ∷ 0 ∷ 116 ∷ 50 ∷ 0 ∷ []) [] ∷ row (114 ∷ 49 ∷ 48 ∷ 0 ∷ []) (255 ∷ 0 ∷ 33 ∷ []) ∷ [] }

-- two_levels: messages of all kinds wait at the root, a clear of all before the last puts
abbrev pub two_levels_0 : List ℕ
two_levels_0 = 8 ∷ 0 ∷ 0 ∷ 1 ∷ 32 ∷ 0 ∷ 1 ∷ 0 ∷ 2 ∷ 0 ∷ 4 ∷ []

abbrev pub two_levels_1 : List ℕ
two_levels_1 = 128 ∷ 0 ∷ 2 ∷ 0 ∷ 2 ∷ 0 ∷ 0 ∷ 0 ∷ 2 ∷ 0 ∷ 16 ∷ 0 ∷ 2 ∷ 0 ∷ 5 ∷ 0 ∷ 16 ∷ 0 ∷ 3 ∷ 0 ∷ 114 ∷ 49 ∷ 0 ∷ 6 ∷ 0 ∷ 16 ∷ 0 ∷ 4 ∷ 0 ∷ 114 ∷ 49 ∷ 0 ∷ 255 ∷ 7 ∷ 0 ∷ 32 ∷ 0 ∷ 4 ∷ 0 ∷ 97 ∷ 0 ∷ 122 ∷ 0 ∷ 7 ∷ 5 ∷ 0 ∷ 33 ∷ 0 ∷ 114 ∷ 49 ∷ 0 ∷ 97 ∷ 0 ∷ 3 ∷ 0 ∷ 34 ∷ 0 ∷ 114 ∷ 50 ∷ 0 ∷ 0 ∷ 0 ∷ 34 ∷ 0 ∷ 6 ∷ 0 ∷ 32 ∷ 0 ∷ 3 ∷ 0 ∷ 114 ∷ 49 ∷ 0 ∷ 9 ∷ 9 ∷ 0 ∷ 32 ∷ 0 ∷ 5 ∷ 0 ∷ 114 ∷ 49 ∷ 0 ∷ 98 ∷ 0 ∷ 7 ∷ 7 ∷ 7 ∷ 0 ∷ 32 ∷ 0 ∷ 5 ∷ 0 ∷ 114 ∷ 50 ∷ 0 ∷ 120 ∷ 0 ∷ 9 ∷ 0 ∷ 32 ∷ 0 ∷ 6 ∷ 0 ∷ 114 ∷ 49 ∷ 48 ∷ 0 ∷ 113 ∷ 0 ∷ 8 ∷ 6 ∷ 0 ∷ 33 ∷ 0 ∷ 114 ∷ 49 ∷ 48 ∷ 0 ∷ 113 ∷ 0 ∷ 2 ∷ 0 ∷ 34 ∷ 0 ∷ 98 ∷ 0 ∷ 5 ∷ 0 ∷ 32 ∷ 0 ∷ 2 ∷ 0 ∷ 97 ∷ 0 ∷ 11 ∷ []

abbrev pub two_levels_2 : List ℕ
two_levels_2 = 20 ∷ 0 ∷ 1 ∷ 0 ∷ 1 ∷ 0 ∷ 0 ∷ 0 ∷ 5 ∷ 0 ∷ 1 ∷ 0 ∷ 2 ∷ 0 ∷ 97 ∷ 0 ∷ 1 ∷ 7 ∷ 0 ∷ 1 ∷ 0 ∷ 4 ∷ 0 ∷ 98 ∷ 0 ∷ 120 ∷ 0 ∷ 2 ∷ []

abbrev pub two_levels_3 : List ℕ
two_levels_3 = 24 ∷ 0 ∷ 1 ∷ 0 ∷ 1 ∷ 0 ∷ 0 ∷ 0 ∷ 2 ∷ 0 ∷ 1 ∷ 0 ∷ 0 ∷ 0 ∷ 5 ∷ 0 ∷ 1 ∷ 0 ∷ 2 ∷ 0 ∷ 97 ∷ 0 ∷ 3 ∷ 5 ∷ 0 ∷ 1 ∷ 0 ∷ 2 ∷ 0 ∷ 99 ∷ 0 ∷ 4 ∷ []

abbrev pub two_levels_4 : List ℕ
two_levels_4 = 23 ∷ 0 ∷ 1 ∷ 0 ∷ 1 ∷ 0 ∷ 0 ∷ 0 ∷ 7 ∷ 0 ∷ 1 ∷ 0 ∷ 4 ∷ 0 ∷ 114 ∷ 49 ∷ 48 ∷ 0 ∷ 5 ∷ 8 ∷ 0 ∷ 1 ∷ 0 ∷ 5 ∷ 0 ∷ 114 ∷ 50 ∷ 0 ∷ 120 ∷ 0 ∷ 6 ∷ []

abbrev pub two_levels : List ℕ
two_levels = node two_levels_0 ++ node two_levels_1 ++ node two_levels_2 ++ node two_levels_3 ++ node two_levels_4 ++ replicate (27 * 1024) 0

abbrev pub two_levels_says : Verdict
two_levels_says = record { sound = true; settled = false; used = 5; free = 27; table = row (97 ∷ 0 ∷ []) (11 ∷ []) ∷ row (114 ∷ 49 ∷ 0 ∷ []) (9 ∷ []) ∷ row (114 ∷ 49 ∷ 0 ∷ 98 ∷ 0 ∷ []) (7 ∷ 7 ∷ []) ∷ row (114 ∷ 50 ∷ 0 ∷ 120 ∷ 0 ∷ []) [] ∷ [] }

-- three_levels: messages wait at two levels; clears at, under and above a lifted prefix; an empty leaf, an only child, a pivot of 65 bytes
abbrev pub three_levels_0 : List ℕ
three_levels_0 = 8 ∷ 0 ∷ 0 ∷ 1 ∷ 32 ∷ 0 ∷ 3 ∷ 0 ∷ 3 ∷ 0 ∷ 10 ∷ []

abbrev pub three_levels_3 : List ℕ
three_levels_3 = 193 ∷ 0 ∷ 2 ∷ 0 ∷ 3 ∷ 0 ∷ 0 ∷ 0 ∷ 2 ∷ 0 ∷ 16 ∷ 0 ∷ 4 ∷ 0 ∷ 5 ∷ 0 ∷ 16 ∷ 0 ∷ 6 ∷ 0 ∷ 114 ∷ 49 ∷ 0 ∷ 6 ∷ 0 ∷ 16 ∷ 0 ∷ 10 ∷ 0 ∷ 114 ∷ 49 ∷ 0 ∷ 255 ∷ 67 ∷ 0 ∷ 16 ∷ 0 ∷ 15 ∷ 0 ∷ 118 ∷ 50 ∷ 51 ∷ 52 ∷ 53 ∷ 54 ∷ 55 ∷ 56 ∷ 57 ∷ 48 ∷ 49 ∷ 50 ∷ 51 ∷ 52 ∷ 53 ∷ 54 ∷ 0 ∷ 118 ∷ 50 ∷ 51 ∷ 52 ∷ 53 ∷ 54 ∷ 55 ∷ 56 ∷ 57 ∷ 48 ∷ 49 ∷ 50 ∷ 51 ∷ 52 ∷ 53 ∷ 54 ∷ 0 ∷ 118 ∷ 50 ∷ 51 ∷ 52 ∷ 53 ∷ 54 ∷ 55 ∷ 56 ∷ 57 ∷ 48 ∷ 49 ∷ 50 ∷ 51 ∷ 52 ∷ 53 ∷ 54 ∷ 0 ∷ 118 ∷ 50 ∷ 51 ∷ 52 ∷ 53 ∷ 54 ∷ 55 ∷ 56 ∷ 57 ∷ 48 ∷ 49 ∷ 50 ∷ 0 ∷ 255 ∷ 7 ∷ 0 ∷ 32 ∷ 0 ∷ 4 ∷ 0 ∷ 97 ∷ 0 ∷ 120 ∷ 0 ∷ 9 ∷ 5 ∷ 0 ∷ 34 ∷ 0 ∷ 114 ∷ 49 ∷ 0 ∷ 100 ∷ 0 ∷ 2 ∷ 0 ∷ 33 ∷ 0 ∷ 98 ∷ 0 ∷ 67 ∷ 0 ∷ 32 ∷ 0 ∷ 64 ∷ 0 ∷ 118 ∷ 50 ∷ 51 ∷ 52 ∷ 53 ∷ 54 ∷ 55 ∷ 56 ∷ 57 ∷ 48 ∷ 49 ∷ 50 ∷ 51 ∷ 52 ∷ 53 ∷ 54 ∷ 0 ∷ 118 ∷ 50 ∷ 51 ∷ 52 ∷ 53 ∷ 54 ∷ 55 ∷ 56 ∷ 57 ∷ 48 ∷ 49 ∷ 50 ∷ 51 ∷ 52 ∷ 53 ∷ 54 ∷ 0 ∷ 118 ∷ 50 ∷ 51 ∷ 52 ∷ 53 ∷ 54 ∷ 55 ∷ 56 ∷ 57 ∷ 48 ∷ 49 ∷ 50 ∷ 51 ∷ 52 ∷ 53 ∷ 54 ∷ 0 ∷ 118 ∷ 50 ∷ 51 ∷ 52 ∷ 53 ∷ 54 ∷ 55 ∷ 56 ∷ 57 ∷ 48 ∷ 49 ∷ 50 ∷ 0 ∷ 10 ∷ []

abbrev pub three_levels_4 : List ℕ
three_levels_4 = 6 ∷ 0 ∷ 2 ∷ 0 ∷ 2 ∷ 0 ∷ 0 ∷ 0 ∷ 2 ∷ 0 ∷ 16 ∷ 0 ∷ 5 ∷ []

abbrev pub three_levels_5 : List ℕ
three_levels_5 = 18 ∷ 0 ∷ 1 ∷ 0 ∷ 1 ∷ 0 ∷ 0 ∷ 0 ∷ 5 ∷ 0 ∷ 1 ∷ 0 ∷ 2 ∷ 0 ∷ 97 ∷ 0 ∷ 1 ∷ 5 ∷ 0 ∷ 1 ∷ 0 ∷ 2 ∷ 0 ∷ 98 ∷ 0 ∷ 2 ∷ []

abbrev pub three_levels_6 : List ℕ
three_levels_6 = 53 ∷ 0 ∷ 2 ∷ 0 ∷ 2 ∷ 0 ∷ 0 ∷ 0 ∷ 2 ∷ 0 ∷ 16 ∷ 0 ∷ 7 ∷ 0 ∷ 4 ∷ 0 ∷ 16 ∷ 0 ∷ 8 ∷ 0 ∷ 99 ∷ 0 ∷ 5 ∷ 0 ∷ 16 ∷ 0 ∷ 9 ∷ 0 ∷ 99 ∷ 0 ∷ 255 ∷ 3 ∷ 0 ∷ 32 ∷ 0 ∷ 0 ∷ 0 ∷ 7 ∷ 2 ∷ 0 ∷ 34 ∷ 0 ∷ 99 ∷ 0 ∷ 7 ∷ 0 ∷ 32 ∷ 0 ∷ 4 ∷ 0 ∷ 99 ∷ 0 ∷ 109 ∷ 0 ∷ 8 ∷ 2 ∷ 0 ∷ 33 ∷ 0 ∷ 97 ∷ []

abbrev pub three_levels_7 : List ℕ
three_levels_7 = 16 ∷ 0 ∷ 1 ∷ 0 ∷ 1 ∷ 0 ∷ 0 ∷ 0 ∷ 3 ∷ 0 ∷ 1 ∷ 0 ∷ 0 ∷ 0 ∷ 1 ∷ 5 ∷ 0 ∷ 1 ∷ 0 ∷ 2 ∷ 0 ∷ 97 ∷ 0 ∷ 2 ∷ []

abbrev pub three_levels_8 : List ℕ
three_levels_8 = 16 ∷ 0 ∷ 1 ∷ 0 ∷ 1 ∷ 0 ∷ 0 ∷ 0 ∷ 3 ∷ 0 ∷ 1 ∷ 0 ∷ 0 ∷ 0 ∷ 3 ∷ 5 ∷ 0 ∷ 1 ∷ 0 ∷ 2 ∷ 0 ∷ 107 ∷ 0 ∷ 4 ∷ []

abbrev pub three_levels_9 : List ℕ
three_levels_9 = 20 ∷ 0 ∷ 1 ∷ 0 ∷ 1 ∷ 0 ∷ 0 ∷ 0 ∷ 5 ∷ 0 ∷ 1 ∷ 0 ∷ 2 ∷ 0 ∷ 100 ∷ 0 ∷ 5 ∷ 7 ∷ 0 ∷ 1 ∷ 0 ∷ 4 ∷ 0 ∷ 100 ∷ 0 ∷ 101 ∷ 0 ∷ 6 ∷ []

abbrev pub three_levels_10 : List ℕ
three_levels_10 = 63 ∷ 0 ∷ 2 ∷ 0 ∷ 2 ∷ 0 ∷ 0 ∷ 0 ∷ 6 ∷ 0 ∷ 16 ∷ 0 ∷ 12 ∷ 0 ∷ 114 ∷ 49 ∷ 0 ∷ 255 ∷ 6 ∷ 0 ∷ 16 ∷ 0 ∷ 13 ∷ 0 ∷ 116 ∷ 0 ∷ 117 ∷ 0 ∷ 7 ∷ 0 ∷ 16 ∷ 0 ∷ 14 ∷ 0 ∷ 116 ∷ 0 ∷ 117 ∷ 0 ∷ 255 ∷ 9 ∷ 0 ∷ 32 ∷ 0 ∷ 6 ∷ 0 ∷ 116 ∷ 0 ∷ 117 ∷ 0 ∷ 97 ∷ 0 ∷ 3 ∷ 2 ∷ 0 ∷ 34 ∷ 0 ∷ 116 ∷ 0 ∷ 9 ∷ 0 ∷ 32 ∷ 0 ∷ 6 ∷ 0 ∷ 116 ∷ 0 ∷ 117 ∷ 0 ∷ 98 ∷ 0 ∷ 4 ∷ []

abbrev pub three_levels_12 : List ℕ
three_levels_12 = 19 ∷ 0 ∷ 1 ∷ 0 ∷ 1 ∷ 0 ∷ 0 ∷ 0 ∷ 7 ∷ 0 ∷ 1 ∷ 0 ∷ 4 ∷ 0 ∷ 114 ∷ 49 ∷ 48 ∷ 0 ∷ 1 ∷ 4 ∷ 0 ∷ 1 ∷ 0 ∷ 2 ∷ 0 ∷ 115 ∷ []

abbrev pub three_levels_13 : List ℕ
three_levels_13 = 16 ∷ 0 ∷ 1 ∷ 0 ∷ 1 ∷ 0 ∷ 0 ∷ 0 ∷ 3 ∷ 0 ∷ 1 ∷ 0 ∷ 0 ∷ 0 ∷ 2 ∷ 5 ∷ 0 ∷ 1 ∷ 0 ∷ 2 ∷ 0 ∷ 97 ∷ 0 ∷ 2 ∷ []

abbrev pub three_levels_14 : List ℕ
three_levels_14 = 20 ∷ 0 ∷ 1 ∷ 0 ∷ 1 ∷ 0 ∷ 0 ∷ 0 ∷ 7 ∷ 0 ∷ 1 ∷ 0 ∷ 4 ∷ 0 ∷ 116 ∷ 0 ∷ 118 ∷ 0 ∷ 3 ∷ 5 ∷ 0 ∷ 1 ∷ 0 ∷ 2 ∷ 0 ∷ 117 ∷ 0 ∷ 3 ∷ []

abbrev pub three_levels_15 : List ℕ
three_levels_15 = 84 ∷ 0 ∷ 2 ∷ 0 ∷ 2 ∷ 0 ∷ 0 ∷ 0 ∷ 67 ∷ 0 ∷ 16 ∷ 0 ∷ 16 ∷ 0 ∷ 118 ∷ 50 ∷ 51 ∷ 52 ∷ 53 ∷ 54 ∷ 55 ∷ 56 ∷ 57 ∷ 48 ∷ 49 ∷ 50 ∷ 51 ∷ 52 ∷ 53 ∷ 54 ∷ 0 ∷ 118 ∷ 50 ∷ 51 ∷ 52 ∷ 53 ∷ 54 ∷ 55 ∷ 56 ∷ 57 ∷ 48 ∷ 49 ∷ 50 ∷ 51 ∷ 52 ∷ 53 ∷ 54 ∷ 0 ∷ 118 ∷ 50 ∷ 51 ∷ 52 ∷ 53 ∷ 54 ∷ 55 ∷ 56 ∷ 57 ∷ 48 ∷ 49 ∷ 50 ∷ 51 ∷ 52 ∷ 53 ∷ 54 ∷ 0 ∷ 118 ∷ 50 ∷ 51 ∷ 52 ∷ 53 ∷ 54 ∷ 55 ∷ 56 ∷ 57 ∷ 48 ∷ 49 ∷ 50 ∷ 0 ∷ 255 ∷ 0 ∷ 0 ∷ 34 ∷ 0 ∷ 5 ∷ 0 ∷ 32 ∷ 0 ∷ 2 ∷ 0 ∷ 122 ∷ 0 ∷ 5 ∷ []

abbrev pub three_levels_16 : List ℕ
three_levels_16 = 0 ∷ 0 ∷ 1 ∷ 0 ∷ 1 ∷ []

abbrev pub three_levels : List ℕ
three_levels = node three_levels_0 ++ replicate (2 * 1024) 0 ++ node three_levels_3 ++ node three_levels_4 ++ node three_levels_5 ++ node three_levels_6 ++ node three_levels_7 ++ node three_levels_8 ++ node three_levels_9 ++ node three_levels_10 ++ replicate (1 * 1024) 0 ++ node three_levels_12 ++ node three_levels_13 ++ node three_levels_14 ++ node three_levels_15 ++ node three_levels_16 ++ replicate (15 * 1024) 0

abbrev pub three_levels_says : Verdict
three_levels_says = record { sound = true; settled = false; used = 14; free = 18; table = row (97 ∷ 0 ∷ []) (1 ∷ []) ∷ row (97 ∷ 0 ∷ 120 ∷ 0 ∷ []) (9 ∷ []) ∷ row (114 ∷ 49 ∷ 0 ∷ []) (7 ∷ []) ∷ row (114 ∷ 49 ∷ 0 ∷ 99 ∷ 0 ∷ 109 ∷ 0 ∷ []) (8 ∷ []) ∷ row (114 ∷ 49 ∷ 48 ∷ 0 ∷ []) (1 ∷ []) ∷ row (115 ∷ 0 ∷ []) [] ∷ row (116 ∷ 0 ∷ 117 ∷ 0 ∷ 98 ∷ 0 ∷ []) (4 ∷ []) ∷ row (117 ∷ 0 ∷ []) (3 ∷ []) ∷ row (118 ∷ 50 ∷ 51 ∷ 52 ∷ 53 ∷ 54 ∷ 55 ∷ 56 ∷ 57 ∷ 48 ∷ 49 ∷ 50 ∷ 51 ∷ 52 ∷ 53 ∷ 54 ∷ 0 ∷ 118 ∷ 50 ∷ 51 ∷ 52 ∷ 53 ∷ 54 ∷ 55 ∷ 56 ∷ 57 ∷ 48 ∷ 49 ∷ 50 ∷ 51 ∷ 52 ∷ 53 ∷ 54 ∷ 0 ∷ 118 ∷ 50 ∷ 51 ∷ 52 ∷ 53 ∷ 54 ∷ 55 ∷ 56 ∷ 57 ∷ 48 ∷ 49 ∷ 50 ∷ 51 ∷ 52 ∷ 53 ∷ 54 ∷ 0 ∷ 118 ∷ 50 ∷ 51 ∷ 52 ∷ 53 ∷ 54 ∷ 55 ∷ 56 ∷ 57 ∷ 48 ∷ 49 ∷ 50 ∷ 0 ∷ []) (10 ∷ []) ∷ row (122 ∷ 0 ∷ []) (5 ∷ []) ∷ [] }

-- long_pivot: settled, with pivots longer than a path, as after a move
abbrev pub long_pivot_0 : List ℕ
long_pivot_0 = 8 ∷ 0 ∷ 0 ∷ 1 ∷ 32 ∷ 0 ∷ 9 ∷ 0 ∷ 3 ∷ 0 ∷ 6 ∷ []

abbrev pub long_pivot_1 : List ℕ
long_pivot_1 = 40 ∷ 0 ∷ 2 ∷ 0 ∷ 2 ∷ 0 ∷ 0 ∷ 0 ∷ 36 ∷ 0 ∷ 16 ∷ 0 ∷ 8 ∷ 0 ∷ 116 ∷ 50 ∷ 51 ∷ 52 ∷ 53 ∷ 54 ∷ 55 ∷ 56 ∷ 57 ∷ 48 ∷ 49 ∷ 50 ∷ 51 ∷ 52 ∷ 53 ∷ 54 ∷ 0 ∷ 116 ∷ 50 ∷ 51 ∷ 52 ∷ 53 ∷ 54 ∷ 55 ∷ 56 ∷ 57 ∷ 48 ∷ 49 ∷ 50 ∷ 51 ∷ 52 ∷ 53 ∷ 0 ∷ 255 ∷ []

abbrev pub long_pivot_2 : List ℕ
long_pivot_2 = 6 ∷ 0 ∷ 2 ∷ 0 ∷ 2 ∷ 0 ∷ 0 ∷ 0 ∷ 2 ∷ 0 ∷ 16 ∷ 0 ∷ 3 ∷ []

abbrev pub long_pivot_3 : List ℕ
long_pivot_3 = 9 ∷ 0 ∷ 1 ∷ 0 ∷ 1 ∷ 0 ∷ 0 ∷ 0 ∷ 5 ∷ 0 ∷ 1 ∷ 0 ∷ 2 ∷ 0 ∷ 97 ∷ 0 ∷ 5 ∷ []

abbrev pub long_pivot_4 : List ℕ
long_pivot_4 = 117 ∷ 0 ∷ 2 ∷ 0 ∷ 2 ∷ 0 ∷ 0 ∷ 0 ∷ 2 ∷ 0 ∷ 16 ∷ 0 ∷ 5 ∷ 0 ∷ 51 ∷ 0 ∷ 16 ∷ 0 ∷ 6 ∷ 0 ∷ 109 ∷ 50 ∷ 51 ∷ 52 ∷ 53 ∷ 54 ∷ 55 ∷ 56 ∷ 57 ∷ 48 ∷ 49 ∷ 50 ∷ 51 ∷ 52 ∷ 53 ∷ 54 ∷ 0 ∷ 109 ∷ 50 ∷ 51 ∷ 52 ∷ 53 ∷ 54 ∷ 55 ∷ 56 ∷ 57 ∷ 48 ∷ 49 ∷ 50 ∷ 51 ∷ 52 ∷ 53 ∷ 54 ∷ 0 ∷ 109 ∷ 50 ∷ 51 ∷ 52 ∷ 53 ∷ 54 ∷ 55 ∷ 56 ∷ 57 ∷ 48 ∷ 49 ∷ 50 ∷ 51 ∷ 52 ∷ 0 ∷ 52 ∷ 0 ∷ 16 ∷ 0 ∷ 7 ∷ 0 ∷ 109 ∷ 50 ∷ 51 ∷ 52 ∷ 53 ∷ 54 ∷ 55 ∷ 56 ∷ 57 ∷ 48 ∷ 49 ∷ 50 ∷ 51 ∷ 52 ∷ 53 ∷ 54 ∷ 0 ∷ 109 ∷ 50 ∷ 51 ∷ 52 ∷ 53 ∷ 54 ∷ 55 ∷ 56 ∷ 57 ∷ 48 ∷ 49 ∷ 50 ∷ 51 ∷ 52 ∷ 53 ∷ 54 ∷ 0 ∷ 109 ∷ 50 ∷ 51 ∷ 52 ∷ 53 ∷ 54 ∷ 55 ∷ 56 ∷ 57 ∷ 48 ∷ 49 ∷ 50 ∷ 51 ∷ 52 ∷ 0 ∷ 255 ∷ []

abbrev pub long_pivot_5 : List ℕ
long_pivot_5 = 18 ∷ 0 ∷ 1 ∷ 0 ∷ 1 ∷ 0 ∷ 0 ∷ 0 ∷ 5 ∷ 0 ∷ 1 ∷ 0 ∷ 2 ∷ 0 ∷ 97 ∷ 0 ∷ 1 ∷ 5 ∷ 0 ∷ 1 ∷ 0 ∷ 2 ∷ 0 ∷ 98 ∷ 0 ∷ 2 ∷ []

abbrev pub long_pivot_6 : List ℕ
long_pivot_6 = 0 ∷ 0 ∷ 1 ∷ 0 ∷ 1 ∷ []

abbrev pub long_pivot_7 : List ℕ
long_pivot_7 = 20 ∷ 0 ∷ 1 ∷ 0 ∷ 1 ∷ 0 ∷ 0 ∷ 0 ∷ 5 ∷ 0 ∷ 1 ∷ 0 ∷ 2 ∷ 0 ∷ 120 ∷ 0 ∷ 3 ∷ 7 ∷ 0 ∷ 1 ∷ 0 ∷ 4 ∷ 0 ∷ 121 ∷ 0 ∷ 122 ∷ 0 ∷ 4 ∷ []

abbrev pub long_pivot_8 : List ℕ
long_pivot_8 = 9 ∷ 0 ∷ 1 ∷ 0 ∷ 1 ∷ 0 ∷ 0 ∷ 0 ∷ 5 ∷ 0 ∷ 1 ∷ 0 ∷ 2 ∷ 0 ∷ 117 ∷ 0 ∷ 6 ∷ []

abbrev pub long_pivot_9 : List ℕ
long_pivot_9 = 85 ∷ 0 ∷ 2 ∷ 0 ∷ 3 ∷ 0 ∷ 0 ∷ 0 ∷ 2 ∷ 0 ∷ 16 ∷ 0 ∷ 2 ∷ 0 ∷ 35 ∷ 0 ∷ 16 ∷ 0 ∷ 4 ∷ 0 ∷ 116 ∷ 50 ∷ 51 ∷ 52 ∷ 53 ∷ 54 ∷ 55 ∷ 56 ∷ 57 ∷ 48 ∷ 49 ∷ 50 ∷ 51 ∷ 52 ∷ 53 ∷ 54 ∷ 0 ∷ 116 ∷ 50 ∷ 51 ∷ 52 ∷ 53 ∷ 54 ∷ 55 ∷ 56 ∷ 57 ∷ 48 ∷ 49 ∷ 50 ∷ 51 ∷ 52 ∷ 53 ∷ 0 ∷ 36 ∷ 0 ∷ 16 ∷ 0 ∷ 1 ∷ 0 ∷ 116 ∷ 50 ∷ 51 ∷ 52 ∷ 53 ∷ 54 ∷ 55 ∷ 56 ∷ 57 ∷ 48 ∷ 49 ∷ 50 ∷ 51 ∷ 52 ∷ 53 ∷ 54 ∷ 0 ∷ 116 ∷ 50 ∷ 51 ∷ 52 ∷ 53 ∷ 54 ∷ 55 ∷ 56 ∷ 57 ∷ 48 ∷ 49 ∷ 50 ∷ 51 ∷ 52 ∷ 53 ∷ 0 ∷ 255 ∷ []

abbrev pub long_pivot : List ℕ
long_pivot = node long_pivot_0 ++ node long_pivot_1 ++ node long_pivot_2 ++ node long_pivot_3 ++ node long_pivot_4 ++ node long_pivot_5 ++ node long_pivot_6 ++ node long_pivot_7 ++ node long_pivot_8 ++ node long_pivot_9 ++ replicate (22 * 1024) 0

abbrev pub long_pivot_says : Verdict
long_pivot_says = record { sound = true; settled = true; used = 10; free = 22; table = row (97 ∷ 0 ∷ []) (5 ∷ []) ∷ row (116 ∷ 50 ∷ 51 ∷ 52 ∷ 53 ∷ 54 ∷ 55 ∷ 56 ∷ 57 ∷ 48 ∷ 49 ∷ 50 ∷ 51 ∷ 52 ∷ 53 ∷ 54 ∷ 0 ∷ 116 ∷ 50 ∷ 51 ∷ 52 ∷ 53 ∷ 54 ∷ 55 ∷ 56 ∷ 57 ∷ 48 ∷ 49 ∷ 50 ∷ 51 ∷ 52 ∷ 53 ∷ 0 ∷ 97 ∷ 0 ∷ []) (1 ∷ []) ∷ row (116 ∷ 50 ∷ 51 ∷ 52 ∷ 53 ∷ 54 ∷ 55 ∷ 56 ∷ 57 ∷ 48 ∷ 49 ∷ 50 ∷ 51 ∷ 52 ∷ 53 ∷ 54 ∷ 0 ∷ 116 ∷ 50 ∷ 51 ∷ 52 ∷ 53 ∷ 54 ∷ 55 ∷ 56 ∷ 57 ∷ 48 ∷ 49 ∷ 50 ∷ 51 ∷ 52 ∷ 53 ∷ 0 ∷ 98 ∷ 0 ∷ []) (2 ∷ []) ∷ row (116 ∷ 50 ∷ 51 ∷ 52 ∷ 53 ∷ 54 ∷ 55 ∷ 56 ∷ 57 ∷ 48 ∷ 49 ∷ 50 ∷ 51 ∷ 52 ∷ 53 ∷ 54 ∷ 0 ∷ 116 ∷ 50 ∷ 51 ∷ 52 ∷ 53 ∷ 54 ∷ 55 ∷ 56 ∷ 57 ∷ 48 ∷ 49 ∷ 50 ∷ 51 ∷ 52 ∷ 53 ∷ 0 ∷ 120 ∷ 0 ∷ []) (3 ∷ []) ∷ row (116 ∷ 50 ∷ 51 ∷ 52 ∷ 53 ∷ 54 ∷ 55 ∷ 56 ∷ 57 ∷ 48 ∷ 49 ∷ 50 ∷ 51 ∷ 52 ∷ 53 ∷ 54 ∷ 0 ∷ 116 ∷ 50 ∷ 51 ∷ 52 ∷ 53 ∷ 54 ∷ 55 ∷ 56 ∷ 57 ∷ 48 ∷ 49 ∷ 50 ∷ 51 ∷ 52 ∷ 53 ∷ 0 ∷ 121 ∷ 0 ∷ 122 ∷ 0 ∷ []) (4 ∷ []) ∷ row (117 ∷ 0 ∷ []) (6 ∷ []) ∷ [] }

-- four_levels: messages at three levels speak of the same paths; a one-child chain; garbage in free nodes
abbrev pub four_levels_0 : List ℕ
four_levels_0 = 8 ∷ 0 ∷ 0 ∷ 1 ∷ 32 ∷ 0 ∷ 31 ∷ 0 ∷ 4 ∷ 0 ∷ 8 ∷ []

abbrev pub four_levels_1 : List ℕ
four_levels_1 = 9 ∷ 0 ∷ 2 ∷ 0 ∷ 7 ∷ 0 ∷ 0 ∷ 0 ∷ 255 ∷ 1 ∷ 0 ∷ 77 ∷ []

abbrev pub four_levels_7 : List ℕ
four_levels_7 = 21 ∷ 0 ∷ 2 ∷ 0 ∷ 3 ∷ 0 ∷ 0 ∷ 0 ∷ 2 ∷ 0 ∷ 16 ∷ 0 ∷ 30 ∷ 0 ∷ 2 ∷ 0 ∷ 33 ∷ 0 ∷ 97 ∷ 0 ∷ 5 ∷ 0 ∷ 32 ∷ 0 ∷ 2 ∷ 0 ∷ 101 ∷ 0 ∷ 3 ∷ []

abbrev pub four_levels_8 : List ℕ
four_levels_8 = 18 ∷ 0 ∷ 1 ∷ 0 ∷ 1 ∷ 0 ∷ 0 ∷ 0 ∷ 5 ∷ 0 ∷ 1 ∷ 0 ∷ 2 ∷ 0 ∷ 97 ∷ 0 ∷ 1 ∷ 5 ∷ 0 ∷ 1 ∷ 0 ∷ 2 ∷ 0 ∷ 99 ∷ 0 ∷ 1 ∷ []

abbrev pub four_levels_9 : List ℕ
four_levels_9 = 45 ∷ 0 ∷ 2 ∷ 0 ∷ 3 ∷ 0 ∷ 0 ∷ 0 ∷ 4 ∷ 0 ∷ 16 ∷ 0 ∷ 28 ∷ 0 ∷ 109 ∷ 0 ∷ 5 ∷ 0 ∷ 16 ∷ 0 ∷ 27 ∷ 0 ∷ 109 ∷ 0 ∷ 255 ∷ 7 ∷ 0 ∷ 32 ∷ 0 ∷ 4 ∷ 0 ∷ 109 ∷ 0 ∷ 121 ∷ 0 ∷ 3 ∷ 2 ∷ 0 ∷ 34 ∷ 0 ∷ 110 ∷ 0 ∷ 7 ∷ 0 ∷ 32 ∷ 0 ∷ 4 ∷ 0 ∷ 110 ∷ 0 ∷ 111 ∷ 0 ∷ 3 ∷ []

abbrev pub four_levels_10 : List ℕ
four_levels_10 = 16 ∷ 0 ∷ 1 ∷ 0 ∷ 1 ∷ 0 ∷ 0 ∷ 0 ∷ 3 ∷ 0 ∷ 1 ∷ 0 ∷ 0 ∷ 0 ∷ 1 ∷ 5 ∷ 0 ∷ 1 ∷ 0 ∷ 2 ∷ 0 ∷ 120 ∷ 0 ∷ 1 ∷ []

abbrev pub four_levels_11 : List ℕ
four_levels_11 = 9 ∷ 0 ∷ 1 ∷ 0 ∷ 1 ∷ 0 ∷ 0 ∷ 0 ∷ 5 ∷ 0 ∷ 1 ∷ 0 ∷ 2 ∷ 0 ∷ 110 ∷ 0 ∷ 1 ∷ []

abbrev pub four_levels_12 : List ℕ
four_levels_12 = 9 ∷ 0 ∷ 2 ∷ 0 ∷ 7 ∷ 0 ∷ 0 ∷ 0 ∷ 255 ∷ 1 ∷ 0 ∷ 77 ∷ []

abbrev pub four_levels_13 : List ℕ
four_levels_13 = 8 ∷ 0 ∷ 2 ∷ 0 ∷ 2 ∷ 0 ∷ 0 ∷ 0 ∷ 4 ∷ 0 ∷ 16 ∷ 0 ∷ 25 ∷ 0 ∷ 113 ∷ []

abbrev pub four_levels_25 : List ℕ
four_levels_25 = 9 ∷ 0 ∷ 1 ∷ 0 ∷ 1 ∷ 0 ∷ 0 ∷ 0 ∷ 5 ∷ 0 ∷ 1 ∷ 0 ∷ 2 ∷ 0 ∷ 113 ∷ 0 ∷ 1 ∷ []

abbrev pub four_levels_26 : List ℕ
four_levels_26 = 19 ∷ 0 ∷ 2 ∷ 0 ∷ 3 ∷ 0 ∷ 0 ∷ 0 ∷ 4 ∷ 0 ∷ 16 ∷ 0 ∷ 13 ∷ 0 ∷ 113 ∷ 0 ∷ 7 ∷ 0 ∷ 32 ∷ 0 ∷ 4 ∷ 0 ∷ 113 ∷ 0 ∷ 114 ∷ 0 ∷ 3 ∷ []

abbrev pub four_levels_27 : List ℕ
four_levels_27 = 9 ∷ 0 ∷ 2 ∷ 0 ∷ 2 ∷ 0 ∷ 0 ∷ 0 ∷ 5 ∷ 0 ∷ 16 ∷ 0 ∷ 11 ∷ 0 ∷ 109 ∷ 0 ∷ 255 ∷ []

abbrev pub four_levels_28 : List ℕ
four_levels_28 = 19 ∷ 0 ∷ 2 ∷ 0 ∷ 2 ∷ 0 ∷ 0 ∷ 0 ∷ 2 ∷ 0 ∷ 16 ∷ 0 ∷ 10 ∷ 0 ∷ 0 ∷ 0 ∷ 34 ∷ 0 ∷ 5 ∷ 0 ∷ 32 ∷ 0 ∷ 2 ∷ 0 ∷ 120 ∷ 0 ∷ 2 ∷ []

abbrev pub four_levels_29 : List ℕ
four_levels_29 = 18 ∷ 0 ∷ 1 ∷ 0 ∷ 1 ∷ 0 ∷ 0 ∷ 0 ∷ 5 ∷ 0 ∷ 1 ∷ 0 ∷ 2 ∷ 0 ∷ 101 ∷ 0 ∷ 1 ∷ 5 ∷ 0 ∷ 1 ∷ 0 ∷ 2 ∷ 0 ∷ 103 ∷ 0 ∷ 1 ∷ []

abbrev pub four_levels_30 : List ℕ
four_levels_30 = 38 ∷ 0 ∷ 2 ∷ 0 ∷ 2 ∷ 0 ∷ 0 ∷ 0 ∷ 2 ∷ 0 ∷ 16 ∷ 0 ∷ 8 ∷ 0 ∷ 4 ∷ 0 ∷ 16 ∷ 0 ∷ 29 ∷ 0 ∷ 101 ∷ 0 ∷ 5 ∷ 0 ∷ 32 ∷ 0 ∷ 2 ∷ 0 ∷ 97 ∷ 0 ∷ 2 ∷ 5 ∷ 0 ∷ 32 ∷ 0 ∷ 2 ∷ 0 ∷ 99 ∷ 0 ∷ 2 ∷ 2 ∷ 0 ∷ 33 ∷ 0 ∷ 103 ∷ []

abbrev pub four_levels_31 : List ℕ
four_levels_31 = 50 ∷ 0 ∷ 2 ∷ 0 ∷ 4 ∷ 0 ∷ 0 ∷ 0 ∷ 2 ∷ 0 ∷ 16 ∷ 0 ∷ 7 ∷ 0 ∷ 4 ∷ 0 ∷ 16 ∷ 0 ∷ 9 ∷ 0 ∷ 109 ∷ 0 ∷ 4 ∷ 0 ∷ 16 ∷ 0 ∷ 26 ∷ 0 ∷ 113 ∷ 0 ∷ 5 ∷ 0 ∷ 32 ∷ 0 ∷ 2 ∷ 0 ∷ 97 ∷ 0 ∷ 4 ∷ 4 ∷ 0 ∷ 33 ∷ 0 ∷ 109 ∷ 0 ∷ 121 ∷ 0 ∷ 7 ∷ 0 ∷ 32 ∷ 0 ∷ 4 ∷ 0 ∷ 99 ∷ 0 ∷ 100 ∷ 0 ∷ 4 ∷ []

abbrev pub four_levels : List ℕ
four_levels = node four_levels_0 ++ node four_levels_1 ++ replicate (5 * 1024) 0 ++ node four_levels_7 ++ node four_levels_8 ++ node four_levels_9 ++ node four_levels_10 ++ node four_levels_11 ++ node four_levels_12 ++ node four_levels_13 ++ replicate (11 * 1024) 0 ++ node four_levels_25 ++ node four_levels_26 ++ node four_levels_27 ++ node four_levels_28 ++ node four_levels_29 ++ node four_levels_30 ++ node four_levels_31

abbrev pub four_levels_says : Verdict
four_levels_says = record { sound = true; settled = false; used = 14; free = 18; table = row (97 ∷ 0 ∷ []) (4 ∷ []) ∷ row (99 ∷ 0 ∷ []) (2 ∷ []) ∷ row (99 ∷ 0 ∷ 100 ∷ 0 ∷ []) (4 ∷ []) ∷ row (101 ∷ 0 ∷ []) (3 ∷ []) ∷ row (109 ∷ 0 ∷ 120 ∷ 0 ∷ []) (2 ∷ []) ∷ row (110 ∷ 0 ∷ 111 ∷ 0 ∷ []) (3 ∷ []) ∷ row (113 ∷ 0 ∷ []) (1 ∷ []) ∷ row (113 ∷ 0 ∷ 114 ∷ 0 ∷ []) (3 ∷ []) ∷ [] }

-- long_values: values as long as they may be and as they could be before, in a leaf and waiting
abbrev pub long_values_0 : List ℕ
long_values_0 = 8 ∷ 0 ∷ 0 ∷ 1 ∷ 32 ∷ 0 ∷ 1 ∷ 0 ∷ 2 ∷ 0 ∷ 4 ∷ []

abbrev pub long_values_1 : List ℕ
long_values_1 = 102 ∷ 0 ∷ 2 ∷ 0 ∷ 2 ∷ 0 ∷ 0 ∷ 0 ∷ 2 ∷ 0 ∷ 16 ∷ 0 ∷ 2 ∷ 0 ∷ 52 ∷ 0 ∷ 32 ∷ 0 ∷ 2 ∷ 0 ∷ 97 ∷ 0 ∷ 1 ∷ 2 ∷ 3 ∷ 4 ∷ 5 ∷ 6 ∷ 7 ∷ 8 ∷ 9 ∷ 10 ∷ 11 ∷ 12 ∷ 13 ∷ 14 ∷ 15 ∷ 16 ∷ 17 ∷ 18 ∷ 19 ∷ 20 ∷ 21 ∷ 22 ∷ 23 ∷ 24 ∷ 25 ∷ 26 ∷ 27 ∷ 28 ∷ 29 ∷ 30 ∷ 31 ∷ 32 ∷ 33 ∷ 34 ∷ 35 ∷ 36 ∷ 37 ∷ 38 ∷ 39 ∷ 40 ∷ 41 ∷ 42 ∷ 43 ∷ 44 ∷ 45 ∷ 46 ∷ 47 ∷ 48 ∷ 36 ∷ 0 ∷ 32 ∷ 0 ∷ 2 ∷ 0 ∷ 100 ∷ 0 ∷ 1 ∷ 2 ∷ 3 ∷ 4 ∷ 5 ∷ 6 ∷ 7 ∷ 8 ∷ 9 ∷ 10 ∷ 11 ∷ 12 ∷ 13 ∷ 14 ∷ 15 ∷ 16 ∷ 17 ∷ 18 ∷ 19 ∷ 20 ∷ 21 ∷ 22 ∷ 23 ∷ 24 ∷ 25 ∷ 26 ∷ 27 ∷ 28 ∷ 29 ∷ 30 ∷ 31 ∷ 32 ∷ []

abbrev pub long_values_2 : List ℕ
long_values_2 = 137 ∷ 0 ∷ 1 ∷ 0 ∷ 1 ∷ 0 ∷ 0 ∷ 0 ∷ 36 ∷ 0 ∷ 1 ∷ 0 ∷ 2 ∷ 0 ∷ 97 ∷ 0 ∷ 1 ∷ 2 ∷ 3 ∷ 4 ∷ 5 ∷ 6 ∷ 7 ∷ 8 ∷ 9 ∷ 10 ∷ 11 ∷ 12 ∷ 13 ∷ 14 ∷ 15 ∷ 16 ∷ 17 ∷ 18 ∷ 19 ∷ 20 ∷ 21 ∷ 22 ∷ 23 ∷ 24 ∷ 25 ∷ 26 ∷ 27 ∷ 28 ∷ 29 ∷ 30 ∷ 31 ∷ 32 ∷ 37 ∷ 0 ∷ 1 ∷ 0 ∷ 2 ∷ 0 ∷ 98 ∷ 0 ∷ 1 ∷ 2 ∷ 3 ∷ 4 ∷ 5 ∷ 6 ∷ 7 ∷ 8 ∷ 9 ∷ 10 ∷ 11 ∷ 12 ∷ 13 ∷ 14 ∷ 15 ∷ 16 ∷ 17 ∷ 18 ∷ 19 ∷ 20 ∷ 21 ∷ 22 ∷ 23 ∷ 24 ∷ 25 ∷ 26 ∷ 27 ∷ 28 ∷ 29 ∷ 30 ∷ 31 ∷ 32 ∷ 33 ∷ 52 ∷ 0 ∷ 1 ∷ 0 ∷ 2 ∷ 0 ∷ 99 ∷ 0 ∷ 1 ∷ 2 ∷ 3 ∷ 4 ∷ 5 ∷ 6 ∷ 7 ∷ 8 ∷ 9 ∷ 10 ∷ 11 ∷ 12 ∷ 13 ∷ 14 ∷ 15 ∷ 16 ∷ 17 ∷ 18 ∷ 19 ∷ 20 ∷ 21 ∷ 22 ∷ 23 ∷ 24 ∷ 25 ∷ 26 ∷ 27 ∷ 28 ∷ 29 ∷ 30 ∷ 31 ∷ 32 ∷ 33 ∷ 34 ∷ 35 ∷ 36 ∷ 37 ∷ 38 ∷ 39 ∷ 40 ∷ 41 ∷ 42 ∷ 43 ∷ 44 ∷ 45 ∷ 46 ∷ 47 ∷ 48 ∷ []

abbrev pub long_values : List ℕ
long_values = node long_values_0 ++ node long_values_1 ++ node long_values_2 ++ replicate (29 * 1024) 0

abbrev pub long_values_says : Verdict
long_values_says = record { sound = true; settled = false; used = 3; free = 29; table = row (97 ∷ 0 ∷ []) (1 ∷ 2 ∷ 3 ∷ 4 ∷ 5 ∷ 6 ∷ 7 ∷ 8 ∷ 9 ∷ 10 ∷ 11 ∷ 12 ∷ 13 ∷ 14 ∷ 15 ∷ 16 ∷ 17 ∷ 18 ∷ 19 ∷ 20 ∷ 21 ∷ 22 ∷ 23 ∷ 24 ∷ 25 ∷ 26 ∷ 27 ∷ 28 ∷ 29 ∷ 30 ∷ 31 ∷ 32 ∷ 33 ∷ 34 ∷ 35 ∷ 36 ∷ 37 ∷ 38 ∷ 39 ∷ 40 ∷ 41 ∷ 42 ∷ 43 ∷ 44 ∷ 45 ∷ 46 ∷ 47 ∷ 48 ∷ []) ∷ row (98 ∷ 0 ∷ []) (1 ∷ 2 ∷ 3 ∷ 4 ∷ 5 ∷ 6 ∷ 7 ∷ 8 ∷ 9 ∷ 10 ∷ 11 ∷ 12 ∷ 13 ∷ 14 ∷ 15 ∷ 16 ∷ 17 ∷ 18 ∷ 19 ∷ 20 ∷ 21 ∷ 22 ∷ 23 ∷ 24 ∷ 25 ∷ 26 ∷ 27 ∷ 28 ∷ 29 ∷ 30 ∷ 31 ∷ 32 ∷ 33 ∷ []) ∷ row (99 ∷ 0 ∷ []) (1 ∷ 2 ∷ 3 ∷ 4 ∷ 5 ∷ 6 ∷ 7 ∷ 8 ∷ 9 ∷ 10 ∷ 11 ∷ 12 ∷ 13 ∷ 14 ∷ 15 ∷ 16 ∷ 17 ∷ 18 ∷ 19 ∷ 20 ∷ 21 ∷ 22 ∷ 23 ∷ 24 ∷ 25 ∷ 26 ∷ 27 ∷ 28 ∷ 29 ∷ 30 ∷ 31 ∷ 32 ∷ 33 ∷ 34 ∷ 35 ∷ 36 ∷ 37 ∷ 38 ∷ 39 ∷ 40 ∷ 41 ∷ 42 ∷ 43 ∷ 44 ∷ 45 ∷ 46 ∷ 47 ∷ 48 ∷ []) ∷ row (100 ∷ 0 ∷ []) (1 ∷ 2 ∷ 3 ∷ 4 ∷ 5 ∷ 6 ∷ 7 ∷ 8 ∷ 9 ∷ 10 ∷ 11 ∷ 12 ∷ 13 ∷ 14 ∷ 15 ∷ 16 ∷ 17 ∷ 18 ∷ 19 ∷ 20 ∷ 21 ∷ 22 ∷ 23 ∷ 24 ∷ 25 ∷ 26 ∷ 27 ∷ 28 ∷ 29 ∷ 30 ∷ 31 ∷ 32 ∷ []) ∷ [] }

-- two_levels_flushed: two_levels after a flush of node 1
abbrev pub two_levels_flushed_0 : List ℕ
two_levels_flushed_0 = 8 ∷ 0 ∷ 0 ∷ 1 ∷ 32 ∷ 0 ∷ 1 ∷ 0 ∷ 2 ∷ 0 ∷ 4 ∷ []

abbrev pub two_levels_flushed_1 : List ℕ
two_levels_flushed_1 = 25 ∷ 0 ∷ 2 ∷ 0 ∷ 2 ∷ 0 ∷ 0 ∷ 0 ∷ 2 ∷ 0 ∷ 16 ∷ 0 ∷ 2 ∷ 0 ∷ 5 ∷ 0 ∷ 16 ∷ 0 ∷ 3 ∷ 0 ∷ 114 ∷ 49 ∷ 0 ∷ 6 ∷ 0 ∷ 16 ∷ 0 ∷ 4 ∷ 0 ∷ 114 ∷ 49 ∷ 0 ∷ 255 ∷ []

abbrev pub two_levels_flushed_2 : List ℕ
two_levels_flushed_2 = 9 ∷ 0 ∷ 1 ∷ 0 ∷ 1 ∷ 0 ∷ 0 ∷ 0 ∷ 5 ∷ 0 ∷ 1 ∷ 0 ∷ 2 ∷ 0 ∷ 97 ∷ 0 ∷ 11 ∷ []

abbrev pub two_levels_flushed_3 : List ℕ
two_levels_flushed_3 = 17 ∷ 0 ∷ 1 ∷ 0 ∷ 1 ∷ 0 ∷ 0 ∷ 0 ∷ 3 ∷ 0 ∷ 1 ∷ 0 ∷ 0 ∷ 0 ∷ 9 ∷ 6 ∷ 0 ∷ 1 ∷ 0 ∷ 2 ∷ 0 ∷ 98 ∷ 0 ∷ 7 ∷ 7 ∷ []

abbrev pub two_levels_flushed_4 : List ℕ
two_levels_flushed_4 = 11 ∷ 0 ∷ 1 ∷ 0 ∷ 1 ∷ 0 ∷ 0 ∷ 0 ∷ 7 ∷ 0 ∷ 1 ∷ 0 ∷ 5 ∷ 0 ∷ 114 ∷ 50 ∷ 0 ∷ 120 ∷ []

abbrev pub two_levels_flushed : List ℕ
two_levels_flushed = node two_levels_flushed_0 ++ node two_levels_flushed_1 ++ node two_levels_flushed_2 ++ node two_levels_flushed_3 ++ node two_levels_flushed_4 ++ replicate (27 * 1024) 0

abbrev pub two_levels_flushed_says : Verdict
two_levels_flushed_says = record { sound = true; settled = true; used = 5; free = 27; table = row (97 ∷ 0 ∷ []) (11 ∷ []) ∷ row (114 ∷ 49 ∷ 0 ∷ []) (9 ∷ []) ∷ row (114 ∷ 49 ∷ 0 ∷ 98 ∷ 0 ∷ []) (7 ∷ 7 ∷ []) ∷ row (114 ∷ 50 ∷ 0 ∷ 120 ∷ 0 ∷ []) [] ∷ [] }

-- three_levels_flushed: three_levels after a flush of node 3
abbrev pub three_levels_flushed_0 : List ℕ
three_levels_flushed_0 = 8 ∷ 0 ∷ 0 ∷ 1 ∷ 32 ∷ 0 ∷ 3 ∷ 0 ∷ 3 ∷ 0 ∷ 10 ∷ []

abbrev pub three_levels_flushed_3 : List ℕ
three_levels_flushed_3 = 96 ∷ 0 ∷ 2 ∷ 0 ∷ 3 ∷ 0 ∷ 0 ∷ 0 ∷ 2 ∷ 0 ∷ 16 ∷ 0 ∷ 4 ∷ 0 ∷ 5 ∷ 0 ∷ 16 ∷ 0 ∷ 6 ∷ 0 ∷ 114 ∷ 49 ∷ 0 ∷ 6 ∷ 0 ∷ 16 ∷ 0 ∷ 10 ∷ 0 ∷ 114 ∷ 49 ∷ 0 ∷ 255 ∷ 67 ∷ 0 ∷ 16 ∷ 0 ∷ 15 ∷ 0 ∷ 118 ∷ 50 ∷ 51 ∷ 52 ∷ 53 ∷ 54 ∷ 55 ∷ 56 ∷ 57 ∷ 48 ∷ 49 ∷ 50 ∷ 51 ∷ 52 ∷ 53 ∷ 54 ∷ 0 ∷ 118 ∷ 50 ∷ 51 ∷ 52 ∷ 53 ∷ 54 ∷ 55 ∷ 56 ∷ 57 ∷ 48 ∷ 49 ∷ 50 ∷ 51 ∷ 52 ∷ 53 ∷ 54 ∷ 0 ∷ 118 ∷ 50 ∷ 51 ∷ 52 ∷ 53 ∷ 54 ∷ 55 ∷ 56 ∷ 57 ∷ 48 ∷ 49 ∷ 50 ∷ 51 ∷ 52 ∷ 53 ∷ 54 ∷ 0 ∷ 118 ∷ 50 ∷ 51 ∷ 52 ∷ 53 ∷ 54 ∷ 55 ∷ 56 ∷ 57 ∷ 48 ∷ 49 ∷ 50 ∷ 0 ∷ 255 ∷ []

abbrev pub three_levels_flushed_4 : List ℕ
three_levels_flushed_4 = 23 ∷ 0 ∷ 2 ∷ 0 ∷ 2 ∷ 0 ∷ 0 ∷ 0 ∷ 2 ∷ 0 ∷ 16 ∷ 0 ∷ 5 ∷ 0 ∷ 7 ∷ 0 ∷ 32 ∷ 0 ∷ 4 ∷ 0 ∷ 97 ∷ 0 ∷ 120 ∷ 0 ∷ 9 ∷ 2 ∷ 0 ∷ 33 ∷ 0 ∷ 98 ∷ []

abbrev pub three_levels_flushed_5 : List ℕ
three_levels_flushed_5 = 18 ∷ 0 ∷ 1 ∷ 0 ∷ 1 ∷ 0 ∷ 0 ∷ 0 ∷ 5 ∷ 0 ∷ 1 ∷ 0 ∷ 2 ∷ 0 ∷ 97 ∷ 0 ∷ 1 ∷ 5 ∷ 0 ∷ 1 ∷ 0 ∷ 2 ∷ 0 ∷ 98 ∷ 0 ∷ 2 ∷ []

abbrev pub three_levels_flushed_6 : List ℕ
three_levels_flushed_6 = 59 ∷ 0 ∷ 2 ∷ 0 ∷ 2 ∷ 0 ∷ 0 ∷ 0 ∷ 2 ∷ 0 ∷ 16 ∷ 0 ∷ 7 ∷ 0 ∷ 4 ∷ 0 ∷ 16 ∷ 0 ∷ 8 ∷ 0 ∷ 99 ∷ 0 ∷ 5 ∷ 0 ∷ 16 ∷ 0 ∷ 9 ∷ 0 ∷ 99 ∷ 0 ∷ 255 ∷ 3 ∷ 0 ∷ 32 ∷ 0 ∷ 0 ∷ 0 ∷ 7 ∷ 2 ∷ 0 ∷ 34 ∷ 0 ∷ 99 ∷ 0 ∷ 7 ∷ 0 ∷ 32 ∷ 0 ∷ 4 ∷ 0 ∷ 99 ∷ 0 ∷ 109 ∷ 0 ∷ 8 ∷ 2 ∷ 0 ∷ 33 ∷ 0 ∷ 97 ∷ 0 ∷ 2 ∷ 0 ∷ 34 ∷ 0 ∷ 100 ∷ []

abbrev pub three_levels_flushed_7 : List ℕ
three_levels_flushed_7 = 16 ∷ 0 ∷ 1 ∷ 0 ∷ 1 ∷ 0 ∷ 0 ∷ 0 ∷ 3 ∷ 0 ∷ 1 ∷ 0 ∷ 0 ∷ 0 ∷ 1 ∷ 5 ∷ 0 ∷ 1 ∷ 0 ∷ 2 ∷ 0 ∷ 97 ∷ 0 ∷ 2 ∷ []

abbrev pub three_levels_flushed_8 : List ℕ
three_levels_flushed_8 = 16 ∷ 0 ∷ 1 ∷ 0 ∷ 1 ∷ 0 ∷ 0 ∷ 0 ∷ 3 ∷ 0 ∷ 1 ∷ 0 ∷ 0 ∷ 0 ∷ 3 ∷ 5 ∷ 0 ∷ 1 ∷ 0 ∷ 2 ∷ 0 ∷ 107 ∷ 0 ∷ 4 ∷ []

abbrev pub three_levels_flushed_9 : List ℕ
three_levels_flushed_9 = 20 ∷ 0 ∷ 1 ∷ 0 ∷ 1 ∷ 0 ∷ 0 ∷ 0 ∷ 5 ∷ 0 ∷ 1 ∷ 0 ∷ 2 ∷ 0 ∷ 100 ∷ 0 ∷ 5 ∷ 7 ∷ 0 ∷ 1 ∷ 0 ∷ 4 ∷ 0 ∷ 100 ∷ 0 ∷ 101 ∷ 0 ∷ 6 ∷ []

abbrev pub three_levels_flushed_10 : List ℕ
three_levels_flushed_10 = 134 ∷ 0 ∷ 2 ∷ 0 ∷ 2 ∷ 0 ∷ 0 ∷ 0 ∷ 6 ∷ 0 ∷ 16 ∷ 0 ∷ 12 ∷ 0 ∷ 114 ∷ 49 ∷ 0 ∷ 255 ∷ 6 ∷ 0 ∷ 16 ∷ 0 ∷ 13 ∷ 0 ∷ 116 ∷ 0 ∷ 117 ∷ 0 ∷ 7 ∷ 0 ∷ 16 ∷ 0 ∷ 14 ∷ 0 ∷ 116 ∷ 0 ∷ 117 ∷ 0 ∷ 255 ∷ 9 ∷ 0 ∷ 32 ∷ 0 ∷ 6 ∷ 0 ∷ 116 ∷ 0 ∷ 117 ∷ 0 ∷ 97 ∷ 0 ∷ 3 ∷ 2 ∷ 0 ∷ 34 ∷ 0 ∷ 116 ∷ 0 ∷ 9 ∷ 0 ∷ 32 ∷ 0 ∷ 6 ∷ 0 ∷ 116 ∷ 0 ∷ 117 ∷ 0 ∷ 98 ∷ 0 ∷ 4 ∷ 67 ∷ 0 ∷ 32 ∷ 0 ∷ 64 ∷ 0 ∷ 118 ∷ 50 ∷ 51 ∷ 52 ∷ 53 ∷ 54 ∷ 55 ∷ 56 ∷ 57 ∷ 48 ∷ 49 ∷ 50 ∷ 51 ∷ 52 ∷ 53 ∷ 54 ∷ 0 ∷ 118 ∷ 50 ∷ 51 ∷ 52 ∷ 53 ∷ 54 ∷ 55 ∷ 56 ∷ 57 ∷ 48 ∷ 49 ∷ 50 ∷ 51 ∷ 52 ∷ 53 ∷ 54 ∷ 0 ∷ 118 ∷ 50 ∷ 51 ∷ 52 ∷ 53 ∷ 54 ∷ 55 ∷ 56 ∷ 57 ∷ 48 ∷ 49 ∷ 50 ∷ 51 ∷ 52 ∷ 53 ∷ 54 ∷ 0 ∷ 118 ∷ 50 ∷ 51 ∷ 52 ∷ 53 ∷ 54 ∷ 55 ∷ 56 ∷ 57 ∷ 48 ∷ 49 ∷ 50 ∷ 0 ∷ 10 ∷ []

abbrev pub three_levels_flushed_12 : List ℕ
three_levels_flushed_12 = 19 ∷ 0 ∷ 1 ∷ 0 ∷ 1 ∷ 0 ∷ 0 ∷ 0 ∷ 7 ∷ 0 ∷ 1 ∷ 0 ∷ 4 ∷ 0 ∷ 114 ∷ 49 ∷ 48 ∷ 0 ∷ 1 ∷ 4 ∷ 0 ∷ 1 ∷ 0 ∷ 2 ∷ 0 ∷ 115 ∷ []

abbrev pub three_levels_flushed_13 : List ℕ
three_levels_flushed_13 = 16 ∷ 0 ∷ 1 ∷ 0 ∷ 1 ∷ 0 ∷ 0 ∷ 0 ∷ 3 ∷ 0 ∷ 1 ∷ 0 ∷ 0 ∷ 0 ∷ 2 ∷ 5 ∷ 0 ∷ 1 ∷ 0 ∷ 2 ∷ 0 ∷ 97 ∷ 0 ∷ 2 ∷ []

abbrev pub three_levels_flushed_14 : List ℕ
three_levels_flushed_14 = 20 ∷ 0 ∷ 1 ∷ 0 ∷ 1 ∷ 0 ∷ 0 ∷ 0 ∷ 7 ∷ 0 ∷ 1 ∷ 0 ∷ 4 ∷ 0 ∷ 116 ∷ 0 ∷ 118 ∷ 0 ∷ 3 ∷ 5 ∷ 0 ∷ 1 ∷ 0 ∷ 2 ∷ 0 ∷ 117 ∷ 0 ∷ 3 ∷ []

abbrev pub three_levels_flushed_15 : List ℕ
three_levels_flushed_15 = 84 ∷ 0 ∷ 2 ∷ 0 ∷ 2 ∷ 0 ∷ 0 ∷ 0 ∷ 67 ∷ 0 ∷ 16 ∷ 0 ∷ 16 ∷ 0 ∷ 118 ∷ 50 ∷ 51 ∷ 52 ∷ 53 ∷ 54 ∷ 55 ∷ 56 ∷ 57 ∷ 48 ∷ 49 ∷ 50 ∷ 51 ∷ 52 ∷ 53 ∷ 54 ∷ 0 ∷ 118 ∷ 50 ∷ 51 ∷ 52 ∷ 53 ∷ 54 ∷ 55 ∷ 56 ∷ 57 ∷ 48 ∷ 49 ∷ 50 ∷ 51 ∷ 52 ∷ 53 ∷ 54 ∷ 0 ∷ 118 ∷ 50 ∷ 51 ∷ 52 ∷ 53 ∷ 54 ∷ 55 ∷ 56 ∷ 57 ∷ 48 ∷ 49 ∷ 50 ∷ 51 ∷ 52 ∷ 53 ∷ 54 ∷ 0 ∷ 118 ∷ 50 ∷ 51 ∷ 52 ∷ 53 ∷ 54 ∷ 55 ∷ 56 ∷ 57 ∷ 48 ∷ 49 ∷ 50 ∷ 0 ∷ 255 ∷ 0 ∷ 0 ∷ 34 ∷ 0 ∷ 5 ∷ 0 ∷ 32 ∷ 0 ∷ 2 ∷ 0 ∷ 122 ∷ 0 ∷ 5 ∷ []

abbrev pub three_levels_flushed_16 : List ℕ
three_levels_flushed_16 = 0 ∷ 0 ∷ 1 ∷ 0 ∷ 1 ∷ []

abbrev pub three_levels_flushed : List ℕ
three_levels_flushed = node three_levels_flushed_0 ++ replicate (2 * 1024) 0 ++ node three_levels_flushed_3 ++ node three_levels_flushed_4 ++ node three_levels_flushed_5 ++ node three_levels_flushed_6 ++ node three_levels_flushed_7 ++ node three_levels_flushed_8 ++ node three_levels_flushed_9 ++ node three_levels_flushed_10 ++ replicate (1 * 1024) 0 ++ node three_levels_flushed_12 ++ node three_levels_flushed_13 ++ node three_levels_flushed_14 ++ node three_levels_flushed_15 ++ node three_levels_flushed_16 ++ replicate (15 * 1024) 0

abbrev pub three_levels_flushed_says : Verdict
three_levels_flushed_says = record { sound = true; settled = false; used = 14; free = 18; table = row (97 ∷ 0 ∷ []) (1 ∷ []) ∷ row (97 ∷ 0 ∷ 120 ∷ 0 ∷ []) (9 ∷ []) ∷ row (114 ∷ 49 ∷ 0 ∷ []) (7 ∷ []) ∷ row (114 ∷ 49 ∷ 0 ∷ 99 ∷ 0 ∷ 109 ∷ 0 ∷ []) (8 ∷ []) ∷ row (114 ∷ 49 ∷ 48 ∷ 0 ∷ []) (1 ∷ []) ∷ row (115 ∷ 0 ∷ []) [] ∷ row (116 ∷ 0 ∷ 117 ∷ 0 ∷ 98 ∷ 0 ∷ []) (4 ∷ []) ∷ row (117 ∷ 0 ∷ []) (3 ∷ []) ∷ row (118 ∷ 50 ∷ 51 ∷ 52 ∷ 53 ∷ 54 ∷ 55 ∷ 56 ∷ 57 ∷ 48 ∷ 49 ∷ 50 ∷ 51 ∷ 52 ∷ 53 ∷ 54 ∷ 0 ∷ 118 ∷ 50 ∷ 51 ∷ 52 ∷ 53 ∷ 54 ∷ 55 ∷ 56 ∷ 57 ∷ 48 ∷ 49 ∷ 50 ∷ 51 ∷ 52 ∷ 53 ∷ 54 ∷ 0 ∷ 118 ∷ 50 ∷ 51 ∷ 52 ∷ 53 ∷ 54 ∷ 55 ∷ 56 ∷ 57 ∷ 48 ∷ 49 ∷ 50 ∷ 51 ∷ 52 ∷ 53 ∷ 54 ∷ 0 ∷ 118 ∷ 50 ∷ 51 ∷ 52 ∷ 53 ∷ 54 ∷ 55 ∷ 56 ∷ 57 ∷ 48 ∷ 49 ∷ 50 ∷ 0 ∷ []) (10 ∷ []) ∷ row (122 ∷ 0 ∷ []) (5 ∷ []) ∷ [] }

-- four_levels_flushed: four_levels after a flush of node 9
abbrev pub four_levels_flushed_0 : List ℕ
four_levels_flushed_0 = 8 ∷ 0 ∷ 0 ∷ 1 ∷ 32 ∷ 0 ∷ 31 ∷ 0 ∷ 4 ∷ 0 ∷ 8 ∷ []

abbrev pub four_levels_flushed_1 : List ℕ
four_levels_flushed_1 = 9 ∷ 0 ∷ 2 ∷ 0 ∷ 7 ∷ 0 ∷ 0 ∷ 0 ∷ 255 ∷ 1 ∷ 0 ∷ 77 ∷ []

abbrev pub four_levels_flushed_7 : List ℕ
four_levels_flushed_7 = 21 ∷ 0 ∷ 2 ∷ 0 ∷ 3 ∷ 0 ∷ 0 ∷ 0 ∷ 2 ∷ 0 ∷ 16 ∷ 0 ∷ 30 ∷ 0 ∷ 2 ∷ 0 ∷ 33 ∷ 0 ∷ 97 ∷ 0 ∷ 5 ∷ 0 ∷ 32 ∷ 0 ∷ 2 ∷ 0 ∷ 101 ∷ 0 ∷ 3 ∷ []

abbrev pub four_levels_flushed_8 : List ℕ
four_levels_flushed_8 = 18 ∷ 0 ∷ 1 ∷ 0 ∷ 1 ∷ 0 ∷ 0 ∷ 0 ∷ 5 ∷ 0 ∷ 1 ∷ 0 ∷ 2 ∷ 0 ∷ 97 ∷ 0 ∷ 1 ∷ 5 ∷ 0 ∷ 1 ∷ 0 ∷ 2 ∷ 0 ∷ 99 ∷ 0 ∷ 1 ∷ []

abbrev pub four_levels_flushed_9 : List ℕ
four_levels_flushed_9 = 17 ∷ 0 ∷ 2 ∷ 0 ∷ 3 ∷ 0 ∷ 0 ∷ 0 ∷ 4 ∷ 0 ∷ 16 ∷ 0 ∷ 28 ∷ 0 ∷ 109 ∷ 0 ∷ 5 ∷ 0 ∷ 16 ∷ 0 ∷ 27 ∷ 0 ∷ 109 ∷ 0 ∷ 255 ∷ []

abbrev pub four_levels_flushed_10 : List ℕ
four_levels_flushed_10 = 16 ∷ 0 ∷ 1 ∷ 0 ∷ 1 ∷ 0 ∷ 0 ∷ 0 ∷ 3 ∷ 0 ∷ 1 ∷ 0 ∷ 0 ∷ 0 ∷ 1 ∷ 5 ∷ 0 ∷ 1 ∷ 0 ∷ 2 ∷ 0 ∷ 120 ∷ 0 ∷ 1 ∷ []

abbrev pub four_levels_flushed_11 : List ℕ
four_levels_flushed_11 = 9 ∷ 0 ∷ 1 ∷ 0 ∷ 1 ∷ 0 ∷ 0 ∷ 0 ∷ 5 ∷ 0 ∷ 1 ∷ 0 ∷ 2 ∷ 0 ∷ 110 ∷ 0 ∷ 1 ∷ []

abbrev pub four_levels_flushed_12 : List ℕ
four_levels_flushed_12 = 9 ∷ 0 ∷ 2 ∷ 0 ∷ 7 ∷ 0 ∷ 0 ∷ 0 ∷ 255 ∷ 1 ∷ 0 ∷ 77 ∷ []

abbrev pub four_levels_flushed_13 : List ℕ
four_levels_flushed_13 = 8 ∷ 0 ∷ 2 ∷ 0 ∷ 2 ∷ 0 ∷ 0 ∷ 0 ∷ 4 ∷ 0 ∷ 16 ∷ 0 ∷ 25 ∷ 0 ∷ 113 ∷ []

abbrev pub four_levels_flushed_25 : List ℕ
four_levels_flushed_25 = 9 ∷ 0 ∷ 1 ∷ 0 ∷ 1 ∷ 0 ∷ 0 ∷ 0 ∷ 5 ∷ 0 ∷ 1 ∷ 0 ∷ 2 ∷ 0 ∷ 113 ∷ 0 ∷ 1 ∷ []

abbrev pub four_levels_flushed_26 : List ℕ
four_levels_flushed_26 = 19 ∷ 0 ∷ 2 ∷ 0 ∷ 3 ∷ 0 ∷ 0 ∷ 0 ∷ 4 ∷ 0 ∷ 16 ∷ 0 ∷ 13 ∷ 0 ∷ 113 ∷ 0 ∷ 7 ∷ 0 ∷ 32 ∷ 0 ∷ 4 ∷ 0 ∷ 113 ∷ 0 ∷ 114 ∷ 0 ∷ 3 ∷ []

abbrev pub four_levels_flushed_27 : List ℕ
four_levels_flushed_27 = 26 ∷ 0 ∷ 2 ∷ 0 ∷ 2 ∷ 0 ∷ 0 ∷ 0 ∷ 5 ∷ 0 ∷ 16 ∷ 0 ∷ 11 ∷ 0 ∷ 109 ∷ 0 ∷ 255 ∷ 2 ∷ 0 ∷ 34 ∷ 0 ∷ 110 ∷ 0 ∷ 7 ∷ 0 ∷ 32 ∷ 0 ∷ 4 ∷ 0 ∷ 110 ∷ 0 ∷ 111 ∷ 0 ∷ 3 ∷ []

abbrev pub four_levels_flushed_28 : List ℕ
four_levels_flushed_28 = 28 ∷ 0 ∷ 2 ∷ 0 ∷ 2 ∷ 0 ∷ 0 ∷ 0 ∷ 2 ∷ 0 ∷ 16 ∷ 0 ∷ 10 ∷ 0 ∷ 0 ∷ 0 ∷ 34 ∷ 0 ∷ 5 ∷ 0 ∷ 32 ∷ 0 ∷ 2 ∷ 0 ∷ 120 ∷ 0 ∷ 2 ∷ 5 ∷ 0 ∷ 32 ∷ 0 ∷ 2 ∷ 0 ∷ 121 ∷ 0 ∷ 3 ∷ []

abbrev pub four_levels_flushed_29 : List ℕ
four_levels_flushed_29 = 18 ∷ 0 ∷ 1 ∷ 0 ∷ 1 ∷ 0 ∷ 0 ∷ 0 ∷ 5 ∷ 0 ∷ 1 ∷ 0 ∷ 2 ∷ 0 ∷ 101 ∷ 0 ∷ 1 ∷ 5 ∷ 0 ∷ 1 ∷ 0 ∷ 2 ∷ 0 ∷ 103 ∷ 0 ∷ 1 ∷ []

abbrev pub four_levels_flushed_30 : List ℕ
four_levels_flushed_30 = 38 ∷ 0 ∷ 2 ∷ 0 ∷ 2 ∷ 0 ∷ 0 ∷ 0 ∷ 2 ∷ 0 ∷ 16 ∷ 0 ∷ 8 ∷ 0 ∷ 4 ∷ 0 ∷ 16 ∷ 0 ∷ 29 ∷ 0 ∷ 101 ∷ 0 ∷ 5 ∷ 0 ∷ 32 ∷ 0 ∷ 2 ∷ 0 ∷ 97 ∷ 0 ∷ 2 ∷ 5 ∷ 0 ∷ 32 ∷ 0 ∷ 2 ∷ 0 ∷ 99 ∷ 0 ∷ 2 ∷ 2 ∷ 0 ∷ 33 ∷ 0 ∷ 103 ∷ []

abbrev pub four_levels_flushed_31 : List ℕ
four_levels_flushed_31 = 50 ∷ 0 ∷ 2 ∷ 0 ∷ 4 ∷ 0 ∷ 0 ∷ 0 ∷ 2 ∷ 0 ∷ 16 ∷ 0 ∷ 7 ∷ 0 ∷ 4 ∷ 0 ∷ 16 ∷ 0 ∷ 9 ∷ 0 ∷ 109 ∷ 0 ∷ 4 ∷ 0 ∷ 16 ∷ 0 ∷ 26 ∷ 0 ∷ 113 ∷ 0 ∷ 5 ∷ 0 ∷ 32 ∷ 0 ∷ 2 ∷ 0 ∷ 97 ∷ 0 ∷ 4 ∷ 4 ∷ 0 ∷ 33 ∷ 0 ∷ 109 ∷ 0 ∷ 121 ∷ 0 ∷ 7 ∷ 0 ∷ 32 ∷ 0 ∷ 4 ∷ 0 ∷ 99 ∷ 0 ∷ 100 ∷ 0 ∷ 4 ∷ []

abbrev pub four_levels_flushed : List ℕ
four_levels_flushed = node four_levels_flushed_0 ++ node four_levels_flushed_1 ++ replicate (5 * 1024) 0 ++ node four_levels_flushed_7 ++ node four_levels_flushed_8 ++ node four_levels_flushed_9 ++ node four_levels_flushed_10 ++ node four_levels_flushed_11 ++ node four_levels_flushed_12 ++ node four_levels_flushed_13 ++ replicate (11 * 1024) 0 ++ node four_levels_flushed_25 ++ node four_levels_flushed_26 ++ node four_levels_flushed_27 ++ node four_levels_flushed_28 ++ node four_levels_flushed_29 ++ node four_levels_flushed_30 ++ node four_levels_flushed_31

abbrev pub four_levels_flushed_says : Verdict
four_levels_flushed_says = record { sound = true; settled = false; used = 14; free = 18; table = row (97 ∷ 0 ∷ []) (4 ∷ []) ∷ row (99 ∷ 0 ∷ []) (2 ∷ []) ∷ row (99 ∷ 0 ∷ 100 ∷ 0 ∷ []) (4 ∷ []) ∷ row (101 ∷ 0 ∷ []) (3 ∷ []) ∷ row (109 ∷ 0 ∷ 120 ∷ 0 ∷ []) (2 ∷ []) ∷ row (110 ∷ 0 ∷ 111 ∷ 0 ∷ []) (3 ∷ []) ∷ row (113 ∷ 0 ∷ []) (1 ∷ []) ∷ row (113 ∷ 0 ∷ 114 ∷ 0 ∷ []) (3 ∷ []) ∷ [] }

-- two_levels_healed: two_levels after a heal of node 1
abbrev pub two_levels_healed_0 : List ℕ
two_levels_healed_0 = 8 ∷ 0 ∷ 0 ∷ 1 ∷ 32 ∷ 0 ∷ 1 ∷ 0 ∷ 2 ∷ 0 ∷ 4 ∷ []

abbrev pub two_levels_healed_1 : List ℕ
two_levels_healed_1 = 109 ∷ 0 ∷ 2 ∷ 0 ∷ 2 ∷ 0 ∷ 0 ∷ 0 ∷ 2 ∷ 0 ∷ 16 ∷ 0 ∷ 2 ∷ 0 ∷ 7 ∷ 0 ∷ 32 ∷ 0 ∷ 4 ∷ 0 ∷ 97 ∷ 0 ∷ 122 ∷ 0 ∷ 7 ∷ 5 ∷ 0 ∷ 33 ∷ 0 ∷ 114 ∷ 49 ∷ 0 ∷ 97 ∷ 0 ∷ 3 ∷ 0 ∷ 34 ∷ 0 ∷ 114 ∷ 50 ∷ 0 ∷ 0 ∷ 0 ∷ 34 ∷ 0 ∷ 6 ∷ 0 ∷ 32 ∷ 0 ∷ 3 ∷ 0 ∷ 114 ∷ 49 ∷ 0 ∷ 9 ∷ 9 ∷ 0 ∷ 32 ∷ 0 ∷ 5 ∷ 0 ∷ 114 ∷ 49 ∷ 0 ∷ 98 ∷ 0 ∷ 7 ∷ 7 ∷ 7 ∷ 0 ∷ 32 ∷ 0 ∷ 5 ∷ 0 ∷ 114 ∷ 50 ∷ 0 ∷ 120 ∷ 0 ∷ 9 ∷ 0 ∷ 32 ∷ 0 ∷ 6 ∷ 0 ∷ 114 ∷ 49 ∷ 48 ∷ 0 ∷ 113 ∷ 0 ∷ 8 ∷ 6 ∷ 0 ∷ 33 ∷ 0 ∷ 114 ∷ 49 ∷ 48 ∷ 0 ∷ 113 ∷ 0 ∷ 2 ∷ 0 ∷ 34 ∷ 0 ∷ 98 ∷ 0 ∷ 5 ∷ 0 ∷ 32 ∷ 0 ∷ 2 ∷ 0 ∷ 97 ∷ 0 ∷ 11 ∷ []

abbrev pub two_levels_healed_2 : List ℕ
two_levels_healed_2 = 76 ∷ 0 ∷ 1 ∷ 0 ∷ 1 ∷ 0 ∷ 0 ∷ 0 ∷ 5 ∷ 0 ∷ 1 ∷ 0 ∷ 2 ∷ 0 ∷ 97 ∷ 0 ∷ 1 ∷ 7 ∷ 0 ∷ 1 ∷ 0 ∷ 4 ∷ 0 ∷ 98 ∷ 0 ∷ 120 ∷ 0 ∷ 2 ∷ 5 ∷ 0 ∷ 1 ∷ 0 ∷ 3 ∷ 0 ∷ 114 ∷ 49 ∷ 0 ∷ 8 ∷ 0 ∷ 1 ∷ 0 ∷ 5 ∷ 0 ∷ 114 ∷ 49 ∷ 0 ∷ 97 ∷ 0 ∷ 3 ∷ 8 ∷ 0 ∷ 1 ∷ 0 ∷ 5 ∷ 0 ∷ 114 ∷ 49 ∷ 0 ∷ 99 ∷ 0 ∷ 4 ∷ 7 ∷ 0 ∷ 1 ∷ 0 ∷ 4 ∷ 0 ∷ 114 ∷ 49 ∷ 48 ∷ 0 ∷ 5 ∷ 8 ∷ 0 ∷ 1 ∷ 0 ∷ 5 ∷ 0 ∷ 114 ∷ 50 ∷ 0 ∷ 120 ∷ 0 ∷ 6 ∷ []

abbrev pub two_levels_healed_3 : List ℕ
two_levels_healed_3 = 24 ∷ 0 ∷ 1 ∷ 0 ∷ 1 ∷ 0 ∷ 0 ∷ 0 ∷ 2 ∷ 0 ∷ 1 ∷ 0 ∷ 0 ∷ 0 ∷ 5 ∷ 0 ∷ 1 ∷ 0 ∷ 2 ∷ 0 ∷ 97 ∷ 0 ∷ 3 ∷ 5 ∷ 0 ∷ 1 ∷ 0 ∷ 2 ∷ 0 ∷ 99 ∷ 0 ∷ 4 ∷ []

abbrev pub two_levels_healed_4 : List ℕ
two_levels_healed_4 = 23 ∷ 0 ∷ 1 ∷ 0 ∷ 1 ∷ 0 ∷ 0 ∷ 0 ∷ 7 ∷ 0 ∷ 1 ∷ 0 ∷ 4 ∷ 0 ∷ 114 ∷ 49 ∷ 48 ∷ 0 ∷ 5 ∷ 8 ∷ 0 ∷ 1 ∷ 0 ∷ 5 ∷ 0 ∷ 114 ∷ 50 ∷ 0 ∷ 120 ∷ 0 ∷ 6 ∷ []

abbrev pub two_levels_healed : List ℕ
two_levels_healed = node two_levels_healed_0 ++ node two_levels_healed_1 ++ node two_levels_healed_2 ++ node two_levels_healed_3 ++ node two_levels_healed_4 ++ replicate (27 * 1024) 0

abbrev pub two_levels_healed_says : Verdict
two_levels_healed_says = record { sound = true; settled = false; used = 3; free = 29; table = row (97 ∷ 0 ∷ []) (11 ∷ []) ∷ row (114 ∷ 49 ∷ 0 ∷ []) (9 ∷ []) ∷ row (114 ∷ 49 ∷ 0 ∷ 98 ∷ 0 ∷ []) (7 ∷ 7 ∷ []) ∷ row (114 ∷ 50 ∷ 0 ∷ 120 ∷ 0 ∷ []) [] ∷ [] }

-- long_pivot_healed: long_pivot after a heal of node 4
abbrev pub long_pivot_healed_0 : List ℕ
long_pivot_healed_0 = 8 ∷ 0 ∷ 0 ∷ 1 ∷ 32 ∷ 0 ∷ 9 ∷ 0 ∷ 3 ∷ 0 ∷ 6 ∷ []

abbrev pub long_pivot_healed_1 : List ℕ
long_pivot_healed_1 = 40 ∷ 0 ∷ 2 ∷ 0 ∷ 2 ∷ 0 ∷ 0 ∷ 0 ∷ 36 ∷ 0 ∷ 16 ∷ 0 ∷ 8 ∷ 0 ∷ 116 ∷ 50 ∷ 51 ∷ 52 ∷ 53 ∷ 54 ∷ 55 ∷ 56 ∷ 57 ∷ 48 ∷ 49 ∷ 50 ∷ 51 ∷ 52 ∷ 53 ∷ 54 ∷ 0 ∷ 116 ∷ 50 ∷ 51 ∷ 52 ∷ 53 ∷ 54 ∷ 55 ∷ 56 ∷ 57 ∷ 48 ∷ 49 ∷ 50 ∷ 51 ∷ 52 ∷ 53 ∷ 0 ∷ 255 ∷ []

abbrev pub long_pivot_healed_2 : List ℕ
long_pivot_healed_2 = 6 ∷ 0 ∷ 2 ∷ 0 ∷ 2 ∷ 0 ∷ 0 ∷ 0 ∷ 2 ∷ 0 ∷ 16 ∷ 0 ∷ 3 ∷ []

abbrev pub long_pivot_healed_3 : List ℕ
long_pivot_healed_3 = 9 ∷ 0 ∷ 1 ∷ 0 ∷ 1 ∷ 0 ∷ 0 ∷ 0 ∷ 5 ∷ 0 ∷ 1 ∷ 0 ∷ 2 ∷ 0 ∷ 97 ∷ 0 ∷ 5 ∷ []

abbrev pub long_pivot_healed_4 : List ℕ
long_pivot_healed_4 = 6 ∷ 0 ∷ 2 ∷ 0 ∷ 2 ∷ 0 ∷ 0 ∷ 0 ∷ 2 ∷ 0 ∷ 16 ∷ 0 ∷ 5 ∷ []

abbrev pub long_pivot_healed_5 : List ℕ
long_pivot_healed_5 = 38 ∷ 0 ∷ 1 ∷ 0 ∷ 1 ∷ 0 ∷ 0 ∷ 0 ∷ 5 ∷ 0 ∷ 1 ∷ 0 ∷ 2 ∷ 0 ∷ 97 ∷ 0 ∷ 1 ∷ 5 ∷ 0 ∷ 1 ∷ 0 ∷ 2 ∷ 0 ∷ 98 ∷ 0 ∷ 2 ∷ 5 ∷ 0 ∷ 1 ∷ 0 ∷ 2 ∷ 0 ∷ 120 ∷ 0 ∷ 3 ∷ 7 ∷ 0 ∷ 1 ∷ 0 ∷ 4 ∷ 0 ∷ 121 ∷ 0 ∷ 122 ∷ 0 ∷ 4 ∷ []

abbrev pub long_pivot_healed_6 : List ℕ
long_pivot_healed_6 = 0 ∷ 0 ∷ 1 ∷ 0 ∷ 1 ∷ []

abbrev pub long_pivot_healed_7 : List ℕ
long_pivot_healed_7 = 20 ∷ 0 ∷ 1 ∷ 0 ∷ 1 ∷ 0 ∷ 0 ∷ 0 ∷ 5 ∷ 0 ∷ 1 ∷ 0 ∷ 2 ∷ 0 ∷ 120 ∷ 0 ∷ 3 ∷ 7 ∷ 0 ∷ 1 ∷ 0 ∷ 4 ∷ 0 ∷ 121 ∷ 0 ∷ 122 ∷ 0 ∷ 4 ∷ []

abbrev pub long_pivot_healed_8 : List ℕ
long_pivot_healed_8 = 9 ∷ 0 ∷ 1 ∷ 0 ∷ 1 ∷ 0 ∷ 0 ∷ 0 ∷ 5 ∷ 0 ∷ 1 ∷ 0 ∷ 2 ∷ 0 ∷ 117 ∷ 0 ∷ 6 ∷ []

abbrev pub long_pivot_healed_9 : List ℕ
long_pivot_healed_9 = 85 ∷ 0 ∷ 2 ∷ 0 ∷ 3 ∷ 0 ∷ 0 ∷ 0 ∷ 2 ∷ 0 ∷ 16 ∷ 0 ∷ 2 ∷ 0 ∷ 35 ∷ 0 ∷ 16 ∷ 0 ∷ 4 ∷ 0 ∷ 116 ∷ 50 ∷ 51 ∷ 52 ∷ 53 ∷ 54 ∷ 55 ∷ 56 ∷ 57 ∷ 48 ∷ 49 ∷ 50 ∷ 51 ∷ 52 ∷ 53 ∷ 54 ∷ 0 ∷ 116 ∷ 50 ∷ 51 ∷ 52 ∷ 53 ∷ 54 ∷ 55 ∷ 56 ∷ 57 ∷ 48 ∷ 49 ∷ 50 ∷ 51 ∷ 52 ∷ 53 ∷ 0 ∷ 36 ∷ 0 ∷ 16 ∷ 0 ∷ 1 ∷ 0 ∷ 116 ∷ 50 ∷ 51 ∷ 52 ∷ 53 ∷ 54 ∷ 55 ∷ 56 ∷ 57 ∷ 48 ∷ 49 ∷ 50 ∷ 51 ∷ 52 ∷ 53 ∷ 54 ∷ 0 ∷ 116 ∷ 50 ∷ 51 ∷ 52 ∷ 53 ∷ 54 ∷ 55 ∷ 56 ∷ 57 ∷ 48 ∷ 49 ∷ 50 ∷ 51 ∷ 52 ∷ 53 ∷ 0 ∷ 255 ∷ []

abbrev pub long_pivot_healed : List ℕ
long_pivot_healed = node long_pivot_healed_0 ++ node long_pivot_healed_1 ++ node long_pivot_healed_2 ++ node long_pivot_healed_3 ++ node long_pivot_healed_4 ++ node long_pivot_healed_5 ++ node long_pivot_healed_6 ++ node long_pivot_healed_7 ++ node long_pivot_healed_8 ++ node long_pivot_healed_9 ++ replicate (22 * 1024) 0

abbrev pub long_pivot_healed_says : Verdict
long_pivot_healed_says = record { sound = true; settled = true; used = 8; free = 24; table = row (97 ∷ 0 ∷ []) (5 ∷ []) ∷ row (116 ∷ 50 ∷ 51 ∷ 52 ∷ 53 ∷ 54 ∷ 55 ∷ 56 ∷ 57 ∷ 48 ∷ 49 ∷ 50 ∷ 51 ∷ 52 ∷ 53 ∷ 54 ∷ 0 ∷ 116 ∷ 50 ∷ 51 ∷ 52 ∷ 53 ∷ 54 ∷ 55 ∷ 56 ∷ 57 ∷ 48 ∷ 49 ∷ 50 ∷ 51 ∷ 52 ∷ 53 ∷ 0 ∷ 97 ∷ 0 ∷ []) (1 ∷ []) ∷ row (116 ∷ 50 ∷ 51 ∷ 52 ∷ 53 ∷ 54 ∷ 55 ∷ 56 ∷ 57 ∷ 48 ∷ 49 ∷ 50 ∷ 51 ∷ 52 ∷ 53 ∷ 54 ∷ 0 ∷ 116 ∷ 50 ∷ 51 ∷ 52 ∷ 53 ∷ 54 ∷ 55 ∷ 56 ∷ 57 ∷ 48 ∷ 49 ∷ 50 ∷ 51 ∷ 52 ∷ 53 ∷ 0 ∷ 98 ∷ 0 ∷ []) (2 ∷ []) ∷ row (116 ∷ 50 ∷ 51 ∷ 52 ∷ 53 ∷ 54 ∷ 55 ∷ 56 ∷ 57 ∷ 48 ∷ 49 ∷ 50 ∷ 51 ∷ 52 ∷ 53 ∷ 54 ∷ 0 ∷ 116 ∷ 50 ∷ 51 ∷ 52 ∷ 53 ∷ 54 ∷ 55 ∷ 56 ∷ 57 ∷ 48 ∷ 49 ∷ 50 ∷ 51 ∷ 52 ∷ 53 ∷ 0 ∷ 120 ∷ 0 ∷ []) (3 ∷ []) ∷ row (116 ∷ 50 ∷ 51 ∷ 52 ∷ 53 ∷ 54 ∷ 55 ∷ 56 ∷ 57 ∷ 48 ∷ 49 ∷ 50 ∷ 51 ∷ 52 ∷ 53 ∷ 54 ∷ 0 ∷ 116 ∷ 50 ∷ 51 ∷ 52 ∷ 53 ∷ 54 ∷ 55 ∷ 56 ∷ 57 ∷ 48 ∷ 49 ∷ 50 ∷ 51 ∷ 52 ∷ 53 ∷ 0 ∷ 121 ∷ 0 ∷ 122 ∷ 0 ∷ []) (4 ∷ []) ∷ row (117 ∷ 0 ∷ []) (6 ∷ []) ∷ [] }

-- two_levels_raised: two_levels with a new node under the root, which keeps its messages: wrong as a flush and as a heal
abbrev pub two_levels_raised_0 : List ℕ
two_levels_raised_0 = 8 ∷ 0 ∷ 0 ∷ 1 ∷ 32 ∷ 0 ∷ 1 ∷ 0 ∷ 3 ∷ 0 ∷ 4 ∷ []

abbrev pub two_levels_raised_1 : List ℕ
two_levels_raised_1 = 109 ∷ 0 ∷ 2 ∷ 0 ∷ 3 ∷ 0 ∷ 0 ∷ 0 ∷ 2 ∷ 0 ∷ 16 ∷ 0 ∷ 5 ∷ 0 ∷ 7 ∷ 0 ∷ 32 ∷ 0 ∷ 4 ∷ 0 ∷ 97 ∷ 0 ∷ 122 ∷ 0 ∷ 7 ∷ 5 ∷ 0 ∷ 33 ∷ 0 ∷ 114 ∷ 49 ∷ 0 ∷ 97 ∷ 0 ∷ 3 ∷ 0 ∷ 34 ∷ 0 ∷ 114 ∷ 50 ∷ 0 ∷ 0 ∷ 0 ∷ 34 ∷ 0 ∷ 6 ∷ 0 ∷ 32 ∷ 0 ∷ 3 ∷ 0 ∷ 114 ∷ 49 ∷ 0 ∷ 9 ∷ 9 ∷ 0 ∷ 32 ∷ 0 ∷ 5 ∷ 0 ∷ 114 ∷ 49 ∷ 0 ∷ 98 ∷ 0 ∷ 7 ∷ 7 ∷ 7 ∷ 0 ∷ 32 ∷ 0 ∷ 5 ∷ 0 ∷ 114 ∷ 50 ∷ 0 ∷ 120 ∷ 0 ∷ 9 ∷ 0 ∷ 32 ∷ 0 ∷ 6 ∷ 0 ∷ 114 ∷ 49 ∷ 48 ∷ 0 ∷ 113 ∷ 0 ∷ 8 ∷ 6 ∷ 0 ∷ 33 ∷ 0 ∷ 114 ∷ 49 ∷ 48 ∷ 0 ∷ 113 ∷ 0 ∷ 2 ∷ 0 ∷ 34 ∷ 0 ∷ 98 ∷ 0 ∷ 5 ∷ 0 ∷ 32 ∷ 0 ∷ 2 ∷ 0 ∷ 97 ∷ 0 ∷ 11 ∷ []

abbrev pub two_levels_raised_2 : List ℕ
two_levels_raised_2 = 20 ∷ 0 ∷ 1 ∷ 0 ∷ 1 ∷ 0 ∷ 0 ∷ 0 ∷ 5 ∷ 0 ∷ 1 ∷ 0 ∷ 2 ∷ 0 ∷ 97 ∷ 0 ∷ 1 ∷ 7 ∷ 0 ∷ 1 ∷ 0 ∷ 4 ∷ 0 ∷ 98 ∷ 0 ∷ 120 ∷ 0 ∷ 2 ∷ []

abbrev pub two_levels_raised_3 : List ℕ
two_levels_raised_3 = 24 ∷ 0 ∷ 1 ∷ 0 ∷ 1 ∷ 0 ∷ 0 ∷ 0 ∷ 2 ∷ 0 ∷ 1 ∷ 0 ∷ 0 ∷ 0 ∷ 5 ∷ 0 ∷ 1 ∷ 0 ∷ 2 ∷ 0 ∷ 97 ∷ 0 ∷ 3 ∷ 5 ∷ 0 ∷ 1 ∷ 0 ∷ 2 ∷ 0 ∷ 99 ∷ 0 ∷ 4 ∷ []

abbrev pub two_levels_raised_4 : List ℕ
two_levels_raised_4 = 23 ∷ 0 ∷ 1 ∷ 0 ∷ 1 ∷ 0 ∷ 0 ∷ 0 ∷ 7 ∷ 0 ∷ 1 ∷ 0 ∷ 4 ∷ 0 ∷ 114 ∷ 49 ∷ 48 ∷ 0 ∷ 5 ∷ 8 ∷ 0 ∷ 1 ∷ 0 ∷ 5 ∷ 0 ∷ 114 ∷ 50 ∷ 0 ∷ 120 ∷ 0 ∷ 6 ∷ []

abbrev pub two_levels_raised_5 : List ℕ
two_levels_raised_5 = 25 ∷ 0 ∷ 2 ∷ 0 ∷ 2 ∷ 0 ∷ 0 ∷ 0 ∷ 2 ∷ 0 ∷ 16 ∷ 0 ∷ 2 ∷ 0 ∷ 5 ∷ 0 ∷ 16 ∷ 0 ∷ 3 ∷ 0 ∷ 114 ∷ 49 ∷ 0 ∷ 6 ∷ 0 ∷ 16 ∷ 0 ∷ 4 ∷ 0 ∷ 114 ∷ 49 ∷ 0 ∷ 255 ∷ []

abbrev pub two_levels_raised : List ℕ
two_levels_raised = node two_levels_raised_0 ++ node two_levels_raised_1 ++ node two_levels_raised_2 ++ node two_levels_raised_3 ++ node two_levels_raised_4 ++ node two_levels_raised_5 ++ replicate (26 * 1024) 0

abbrev pub two_levels_raised_says : Verdict
two_levels_raised_says = record { sound = true; settled = false; used = 6; free = 26; table = row (97 ∷ 0 ∷ []) (11 ∷ []) ∷ row (114 ∷ 49 ∷ 0 ∷ []) (9 ∷ []) ∷ row (114 ∷ 49 ∷ 0 ∷ 98 ∷ 0 ∷ []) (7 ∷ 7 ∷ []) ∷ row (114 ∷ 50 ∷ 0 ∷ 120 ∷ 0 ∷ []) [] ∷ [] }

-- two_levels_lifted: two_levels with a new root, which takes the messages: wrong as a flush
abbrev pub two_levels_lifted_0 : List ℕ
two_levels_lifted_0 = 8 ∷ 0 ∷ 0 ∷ 1 ∷ 32 ∷ 0 ∷ 5 ∷ 0 ∷ 3 ∷ 0 ∷ 4 ∷ []

abbrev pub two_levels_lifted_1 : List ℕ
two_levels_lifted_1 = 25 ∷ 0 ∷ 2 ∷ 0 ∷ 2 ∷ 0 ∷ 0 ∷ 0 ∷ 2 ∷ 0 ∷ 16 ∷ 0 ∷ 2 ∷ 0 ∷ 5 ∷ 0 ∷ 16 ∷ 0 ∷ 3 ∷ 0 ∷ 114 ∷ 49 ∷ 0 ∷ 6 ∷ 0 ∷ 16 ∷ 0 ∷ 4 ∷ 0 ∷ 114 ∷ 49 ∷ 0 ∷ 255 ∷ []

abbrev pub two_levels_lifted_2 : List ℕ
two_levels_lifted_2 = 20 ∷ 0 ∷ 1 ∷ 0 ∷ 1 ∷ 0 ∷ 0 ∷ 0 ∷ 5 ∷ 0 ∷ 1 ∷ 0 ∷ 2 ∷ 0 ∷ 97 ∷ 0 ∷ 1 ∷ 7 ∷ 0 ∷ 1 ∷ 0 ∷ 4 ∷ 0 ∷ 98 ∷ 0 ∷ 120 ∷ 0 ∷ 2 ∷ []

abbrev pub two_levels_lifted_3 : List ℕ
two_levels_lifted_3 = 24 ∷ 0 ∷ 1 ∷ 0 ∷ 1 ∷ 0 ∷ 0 ∷ 0 ∷ 2 ∷ 0 ∷ 1 ∷ 0 ∷ 0 ∷ 0 ∷ 5 ∷ 0 ∷ 1 ∷ 0 ∷ 2 ∷ 0 ∷ 97 ∷ 0 ∷ 3 ∷ 5 ∷ 0 ∷ 1 ∷ 0 ∷ 2 ∷ 0 ∷ 99 ∷ 0 ∷ 4 ∷ []

abbrev pub two_levels_lifted_4 : List ℕ
two_levels_lifted_4 = 23 ∷ 0 ∷ 1 ∷ 0 ∷ 1 ∷ 0 ∷ 0 ∷ 0 ∷ 7 ∷ 0 ∷ 1 ∷ 0 ∷ 4 ∷ 0 ∷ 114 ∷ 49 ∷ 48 ∷ 0 ∷ 5 ∷ 8 ∷ 0 ∷ 1 ∷ 0 ∷ 5 ∷ 0 ∷ 114 ∷ 50 ∷ 0 ∷ 120 ∷ 0 ∷ 6 ∷ []

abbrev pub two_levels_lifted_5 : List ℕ
two_levels_lifted_5 = 109 ∷ 0 ∷ 2 ∷ 0 ∷ 3 ∷ 0 ∷ 0 ∷ 0 ∷ 2 ∷ 0 ∷ 16 ∷ 0 ∷ 1 ∷ 0 ∷ 7 ∷ 0 ∷ 32 ∷ 0 ∷ 4 ∷ 0 ∷ 97 ∷ 0 ∷ 122 ∷ 0 ∷ 7 ∷ 5 ∷ 0 ∷ 33 ∷ 0 ∷ 114 ∷ 49 ∷ 0 ∷ 97 ∷ 0 ∷ 3 ∷ 0 ∷ 34 ∷ 0 ∷ 114 ∷ 50 ∷ 0 ∷ 0 ∷ 0 ∷ 34 ∷ 0 ∷ 6 ∷ 0 ∷ 32 ∷ 0 ∷ 3 ∷ 0 ∷ 114 ∷ 49 ∷ 0 ∷ 9 ∷ 9 ∷ 0 ∷ 32 ∷ 0 ∷ 5 ∷ 0 ∷ 114 ∷ 49 ∷ 0 ∷ 98 ∷ 0 ∷ 7 ∷ 7 ∷ 7 ∷ 0 ∷ 32 ∷ 0 ∷ 5 ∷ 0 ∷ 114 ∷ 50 ∷ 0 ∷ 120 ∷ 0 ∷ 9 ∷ 0 ∷ 32 ∷ 0 ∷ 6 ∷ 0 ∷ 114 ∷ 49 ∷ 48 ∷ 0 ∷ 113 ∷ 0 ∷ 8 ∷ 6 ∷ 0 ∷ 33 ∷ 0 ∷ 114 ∷ 49 ∷ 48 ∷ 0 ∷ 113 ∷ 0 ∷ 2 ∷ 0 ∷ 34 ∷ 0 ∷ 98 ∷ 0 ∷ 5 ∷ 0 ∷ 32 ∷ 0 ∷ 2 ∷ 0 ∷ 97 ∷ 0 ∷ 11 ∷ []

abbrev pub two_levels_lifted : List ℕ
two_levels_lifted = node two_levels_lifted_0 ++ node two_levels_lifted_1 ++ node two_levels_lifted_2 ++ node two_levels_lifted_3 ++ node two_levels_lifted_4 ++ node two_levels_lifted_5 ++ replicate (26 * 1024) 0

abbrev pub two_levels_lifted_says : Verdict
two_levels_lifted_says = record { sound = true; settled = false; used = 6; free = 26; table = row (97 ∷ 0 ∷ []) (11 ∷ []) ∷ row (114 ∷ 49 ∷ 0 ∷ []) (9 ∷ []) ∷ row (114 ∷ 49 ∷ 0 ∷ 98 ∷ 0 ∷ []) (7 ∷ 7 ∷ []) ∷ row (114 ∷ 50 ∷ 0 ∷ 120 ∷ 0 ∷ []) [] ∷ [] }

-- bad_live_count: two_levels with live-count broken
abbrev pub bad_live_count_0 : List ℕ
bad_live_count_0 = 8 ∷ 0 ∷ 0 ∷ 1 ∷ 32 ∷ 0 ∷ 1 ∷ 0 ∷ 2 ∷ 0 ∷ 5 ∷ []

abbrev pub bad_live_count_1 : List ℕ
bad_live_count_1 = 128 ∷ 0 ∷ 2 ∷ 0 ∷ 2 ∷ 0 ∷ 0 ∷ 0 ∷ 2 ∷ 0 ∷ 16 ∷ 0 ∷ 2 ∷ 0 ∷ 5 ∷ 0 ∷ 16 ∷ 0 ∷ 3 ∷ 0 ∷ 114 ∷ 49 ∷ 0 ∷ 6 ∷ 0 ∷ 16 ∷ 0 ∷ 4 ∷ 0 ∷ 114 ∷ 49 ∷ 0 ∷ 255 ∷ 7 ∷ 0 ∷ 32 ∷ 0 ∷ 4 ∷ 0 ∷ 97 ∷ 0 ∷ 122 ∷ 0 ∷ 7 ∷ 5 ∷ 0 ∷ 33 ∷ 0 ∷ 114 ∷ 49 ∷ 0 ∷ 97 ∷ 0 ∷ 3 ∷ 0 ∷ 34 ∷ 0 ∷ 114 ∷ 50 ∷ 0 ∷ 0 ∷ 0 ∷ 34 ∷ 0 ∷ 6 ∷ 0 ∷ 32 ∷ 0 ∷ 3 ∷ 0 ∷ 114 ∷ 49 ∷ 0 ∷ 9 ∷ 9 ∷ 0 ∷ 32 ∷ 0 ∷ 5 ∷ 0 ∷ 114 ∷ 49 ∷ 0 ∷ 98 ∷ 0 ∷ 7 ∷ 7 ∷ 7 ∷ 0 ∷ 32 ∷ 0 ∷ 5 ∷ 0 ∷ 114 ∷ 50 ∷ 0 ∷ 120 ∷ 0 ∷ 9 ∷ 0 ∷ 32 ∷ 0 ∷ 6 ∷ 0 ∷ 114 ∷ 49 ∷ 48 ∷ 0 ∷ 113 ∷ 0 ∷ 8 ∷ 6 ∷ 0 ∷ 33 ∷ 0 ∷ 114 ∷ 49 ∷ 48 ∷ 0 ∷ 113 ∷ 0 ∷ 2 ∷ 0 ∷ 34 ∷ 0 ∷ 98 ∷ 0 ∷ 5 ∷ 0 ∷ 32 ∷ 0 ∷ 2 ∷ 0 ∷ 97 ∷ 0 ∷ 11 ∷ []

abbrev pub bad_live_count_2 : List ℕ
bad_live_count_2 = 20 ∷ 0 ∷ 1 ∷ 0 ∷ 1 ∷ 0 ∷ 0 ∷ 0 ∷ 5 ∷ 0 ∷ 1 ∷ 0 ∷ 2 ∷ 0 ∷ 97 ∷ 0 ∷ 1 ∷ 7 ∷ 0 ∷ 1 ∷ 0 ∷ 4 ∷ 0 ∷ 98 ∷ 0 ∷ 120 ∷ 0 ∷ 2 ∷ []

abbrev pub bad_live_count_3 : List ℕ
bad_live_count_3 = 24 ∷ 0 ∷ 1 ∷ 0 ∷ 1 ∷ 0 ∷ 0 ∷ 0 ∷ 2 ∷ 0 ∷ 1 ∷ 0 ∷ 0 ∷ 0 ∷ 5 ∷ 0 ∷ 1 ∷ 0 ∷ 2 ∷ 0 ∷ 97 ∷ 0 ∷ 3 ∷ 5 ∷ 0 ∷ 1 ∷ 0 ∷ 2 ∷ 0 ∷ 99 ∷ 0 ∷ 4 ∷ []

abbrev pub bad_live_count_4 : List ℕ
bad_live_count_4 = 23 ∷ 0 ∷ 1 ∷ 0 ∷ 1 ∷ 0 ∷ 0 ∷ 0 ∷ 7 ∷ 0 ∷ 1 ∷ 0 ∷ 4 ∷ 0 ∷ 114 ∷ 49 ∷ 48 ∷ 0 ∷ 5 ∷ 8 ∷ 0 ∷ 1 ∷ 0 ∷ 5 ∷ 0 ∷ 114 ∷ 50 ∷ 0 ∷ 120 ∷ 0 ∷ 6 ∷ []

abbrev pub bad_live_count : List ℕ
bad_live_count = node bad_live_count_0 ++ node bad_live_count_1 ++ node bad_live_count_2 ++ node bad_live_count_3 ++ node bad_live_count_4 ++ replicate (27 * 1024) 0

abbrev pub bad_live_count_says : Verdict
bad_live_count_says = record { sound = false; settled = false; used = 0; free = 0; table = [] }

-- bad_reached_once: two_levels with reached-once broken
abbrev pub bad_reached_once_0 : List ℕ
bad_reached_once_0 = 8 ∷ 0 ∷ 0 ∷ 1 ∷ 32 ∷ 0 ∷ 1 ∷ 0 ∷ 2 ∷ 0 ∷ 4 ∷ []

abbrev pub bad_reached_once_1 : List ℕ
bad_reached_once_1 = 128 ∷ 0 ∷ 2 ∷ 0 ∷ 2 ∷ 0 ∷ 0 ∷ 0 ∷ 2 ∷ 0 ∷ 16 ∷ 0 ∷ 2 ∷ 0 ∷ 5 ∷ 0 ∷ 16 ∷ 0 ∷ 1 ∷ 0 ∷ 114 ∷ 49 ∷ 0 ∷ 6 ∷ 0 ∷ 16 ∷ 0 ∷ 4 ∷ 0 ∷ 114 ∷ 49 ∷ 0 ∷ 255 ∷ 7 ∷ 0 ∷ 32 ∷ 0 ∷ 4 ∷ 0 ∷ 97 ∷ 0 ∷ 122 ∷ 0 ∷ 7 ∷ 5 ∷ 0 ∷ 33 ∷ 0 ∷ 114 ∷ 49 ∷ 0 ∷ 97 ∷ 0 ∷ 3 ∷ 0 ∷ 34 ∷ 0 ∷ 114 ∷ 50 ∷ 0 ∷ 0 ∷ 0 ∷ 34 ∷ 0 ∷ 6 ∷ 0 ∷ 32 ∷ 0 ∷ 3 ∷ 0 ∷ 114 ∷ 49 ∷ 0 ∷ 9 ∷ 9 ∷ 0 ∷ 32 ∷ 0 ∷ 5 ∷ 0 ∷ 114 ∷ 49 ∷ 0 ∷ 98 ∷ 0 ∷ 7 ∷ 7 ∷ 7 ∷ 0 ∷ 32 ∷ 0 ∷ 5 ∷ 0 ∷ 114 ∷ 50 ∷ 0 ∷ 120 ∷ 0 ∷ 9 ∷ 0 ∷ 32 ∷ 0 ∷ 6 ∷ 0 ∷ 114 ∷ 49 ∷ 48 ∷ 0 ∷ 113 ∷ 0 ∷ 8 ∷ 6 ∷ 0 ∷ 33 ∷ 0 ∷ 114 ∷ 49 ∷ 48 ∷ 0 ∷ 113 ∷ 0 ∷ 2 ∷ 0 ∷ 34 ∷ 0 ∷ 98 ∷ 0 ∷ 5 ∷ 0 ∷ 32 ∷ 0 ∷ 2 ∷ 0 ∷ 97 ∷ 0 ∷ 11 ∷ []

abbrev pub bad_reached_once_2 : List ℕ
bad_reached_once_2 = 20 ∷ 0 ∷ 1 ∷ 0 ∷ 1 ∷ 0 ∷ 0 ∷ 0 ∷ 5 ∷ 0 ∷ 1 ∷ 0 ∷ 2 ∷ 0 ∷ 97 ∷ 0 ∷ 1 ∷ 7 ∷ 0 ∷ 1 ∷ 0 ∷ 4 ∷ 0 ∷ 98 ∷ 0 ∷ 120 ∷ 0 ∷ 2 ∷ []

abbrev pub bad_reached_once_3 : List ℕ
bad_reached_once_3 = 24 ∷ 0 ∷ 1 ∷ 0 ∷ 1 ∷ 0 ∷ 0 ∷ 0 ∷ 2 ∷ 0 ∷ 1 ∷ 0 ∷ 0 ∷ 0 ∷ 5 ∷ 0 ∷ 1 ∷ 0 ∷ 2 ∷ 0 ∷ 97 ∷ 0 ∷ 3 ∷ 5 ∷ 0 ∷ 1 ∷ 0 ∷ 2 ∷ 0 ∷ 99 ∷ 0 ∷ 4 ∷ []

abbrev pub bad_reached_once_4 : List ℕ
bad_reached_once_4 = 23 ∷ 0 ∷ 1 ∷ 0 ∷ 1 ∷ 0 ∷ 0 ∷ 0 ∷ 7 ∷ 0 ∷ 1 ∷ 0 ∷ 4 ∷ 0 ∷ 114 ∷ 49 ∷ 48 ∷ 0 ∷ 5 ∷ 8 ∷ 0 ∷ 1 ∷ 0 ∷ 5 ∷ 0 ∷ 114 ∷ 50 ∷ 0 ∷ 120 ∷ 0 ∷ 6 ∷ []

abbrev pub bad_reached_once : List ℕ
bad_reached_once = node bad_reached_once_0 ++ node bad_reached_once_1 ++ node bad_reached_once_2 ++ node bad_reached_once_3 ++ node bad_reached_once_4 ++ replicate (27 * 1024) 0

abbrev pub bad_reached_once_says : Verdict
bad_reached_once_says = record { sound = false; settled = false; used = 0; free = 0; table = [] }

-- bad_pair_order: one_leaf with pair-order broken
abbrev pub bad_pair_order_0 : List ℕ
bad_pair_order_0 = 8 ∷ 0 ∷ 0 ∷ 1 ∷ 32 ∷ 0 ∷ 5 ∷ 0 ∷ 1 ∷ 0 ∷ 5 ∷ []

abbrev pub bad_pair_order_5 : List ℕ
bad_pair_order_5 = 62 ∷ 0 ∷ 1 ∷ 0 ∷ 1 ∷ 0 ∷ 0 ∷ 0 ∷ 5 ∷ 0 ∷ 1 ∷ 0 ∷ 2 ∷ 0 ∷ 97 ∷ 0 ∷ 1 ∷ 5 ∷ 0 ∷ 1 ∷ 0 ∷ 3 ∷ 0 ∷ 114 ∷ 49 ∷ 0 ∷ 12 ∷ 0 ∷ 1 ∷ 0 ∷ 9 ∷ 0 ∷ 114 ∷ 49 ∷ 0 ∷ 99 ∷ 55 ∷ 0 ∷ 116 ∷ 49 ∷ 0 ∷ 10 ∷ 9 ∷ 0 ∷ 1 ∷ 0 ∷ 4 ∷ 0 ∷ 114 ∷ 49 ∷ 48 ∷ 0 ∷ 255 ∷ 0 ∷ 33 ∷ 11 ∷ 0 ∷ 1 ∷ 0 ∷ 9 ∷ 0 ∷ 114 ∷ 49 ∷ 0 ∷ 99 ∷ 55 ∷ 0 ∷ 116 ∷ 50 ∷ []

abbrev pub bad_pair_order : List ℕ
bad_pair_order = node bad_pair_order_0 ++ replicate (4 * 1024) 0 ++ node bad_pair_order_5 ++ replicate (26 * 1024) 0

abbrev pub bad_pair_order_says : Verdict
bad_pair_order_says = record { sound = false; settled = false; used = 0; free = 0; table = [] }

-- bad_put_owned: three_levels with put-owned broken
abbrev pub bad_put_owned_0 : List ℕ
bad_put_owned_0 = 8 ∷ 0 ∷ 0 ∷ 1 ∷ 32 ∷ 0 ∷ 3 ∷ 0 ∷ 3 ∷ 0 ∷ 10 ∷ []

abbrev pub bad_put_owned_3 : List ℕ
bad_put_owned_3 = 193 ∷ 0 ∷ 2 ∷ 0 ∷ 3 ∷ 0 ∷ 0 ∷ 0 ∷ 2 ∷ 0 ∷ 16 ∷ 0 ∷ 4 ∷ 0 ∷ 5 ∷ 0 ∷ 16 ∷ 0 ∷ 6 ∷ 0 ∷ 114 ∷ 49 ∷ 0 ∷ 6 ∷ 0 ∷ 16 ∷ 0 ∷ 10 ∷ 0 ∷ 114 ∷ 49 ∷ 0 ∷ 255 ∷ 67 ∷ 0 ∷ 16 ∷ 0 ∷ 15 ∷ 0 ∷ 118 ∷ 50 ∷ 51 ∷ 52 ∷ 53 ∷ 54 ∷ 55 ∷ 56 ∷ 57 ∷ 48 ∷ 49 ∷ 50 ∷ 51 ∷ 52 ∷ 53 ∷ 54 ∷ 0 ∷ 118 ∷ 50 ∷ 51 ∷ 52 ∷ 53 ∷ 54 ∷ 55 ∷ 56 ∷ 57 ∷ 48 ∷ 49 ∷ 50 ∷ 51 ∷ 52 ∷ 53 ∷ 54 ∷ 0 ∷ 118 ∷ 50 ∷ 51 ∷ 52 ∷ 53 ∷ 54 ∷ 55 ∷ 56 ∷ 57 ∷ 48 ∷ 49 ∷ 50 ∷ 51 ∷ 52 ∷ 53 ∷ 54 ∷ 0 ∷ 118 ∷ 50 ∷ 51 ∷ 52 ∷ 53 ∷ 54 ∷ 55 ∷ 56 ∷ 57 ∷ 48 ∷ 49 ∷ 50 ∷ 0 ∷ 255 ∷ 7 ∷ 0 ∷ 32 ∷ 0 ∷ 4 ∷ 0 ∷ 97 ∷ 0 ∷ 120 ∷ 0 ∷ 9 ∷ 5 ∷ 0 ∷ 34 ∷ 0 ∷ 114 ∷ 49 ∷ 0 ∷ 100 ∷ 0 ∷ 2 ∷ 0 ∷ 33 ∷ 0 ∷ 98 ∷ 0 ∷ 67 ∷ 0 ∷ 32 ∷ 0 ∷ 64 ∷ 0 ∷ 118 ∷ 50 ∷ 51 ∷ 52 ∷ 53 ∷ 54 ∷ 55 ∷ 56 ∷ 57 ∷ 48 ∷ 49 ∷ 50 ∷ 51 ∷ 52 ∷ 53 ∷ 54 ∷ 0 ∷ 118 ∷ 50 ∷ 51 ∷ 52 ∷ 53 ∷ 54 ∷ 55 ∷ 56 ∷ 57 ∷ 48 ∷ 49 ∷ 50 ∷ 51 ∷ 52 ∷ 53 ∷ 54 ∷ 0 ∷ 118 ∷ 50 ∷ 51 ∷ 52 ∷ 53 ∷ 54 ∷ 55 ∷ 56 ∷ 57 ∷ 48 ∷ 49 ∷ 50 ∷ 51 ∷ 52 ∷ 53 ∷ 54 ∷ 0 ∷ 118 ∷ 50 ∷ 51 ∷ 52 ∷ 53 ∷ 54 ∷ 55 ∷ 56 ∷ 57 ∷ 48 ∷ 49 ∷ 50 ∷ 0 ∷ 10 ∷ []

abbrev pub bad_put_owned_4 : List ℕ
bad_put_owned_4 = 6 ∷ 0 ∷ 2 ∷ 0 ∷ 2 ∷ 0 ∷ 0 ∷ 0 ∷ 2 ∷ 0 ∷ 16 ∷ 0 ∷ 5 ∷ []

abbrev pub bad_put_owned_5 : List ℕ
bad_put_owned_5 = 18 ∷ 0 ∷ 1 ∷ 0 ∷ 1 ∷ 0 ∷ 0 ∷ 0 ∷ 5 ∷ 0 ∷ 1 ∷ 0 ∷ 2 ∷ 0 ∷ 97 ∷ 0 ∷ 1 ∷ 5 ∷ 0 ∷ 1 ∷ 0 ∷ 2 ∷ 0 ∷ 98 ∷ 0 ∷ 2 ∷ []

abbrev pub bad_put_owned_6 : List ℕ
bad_put_owned_6 = 53 ∷ 0 ∷ 2 ∷ 0 ∷ 2 ∷ 0 ∷ 0 ∷ 0 ∷ 2 ∷ 0 ∷ 16 ∷ 0 ∷ 7 ∷ 0 ∷ 4 ∷ 0 ∷ 16 ∷ 0 ∷ 8 ∷ 0 ∷ 99 ∷ 0 ∷ 5 ∷ 0 ∷ 16 ∷ 0 ∷ 9 ∷ 0 ∷ 99 ∷ 0 ∷ 255 ∷ 3 ∷ 0 ∷ 32 ∷ 0 ∷ 0 ∷ 0 ∷ 7 ∷ 2 ∷ 0 ∷ 34 ∷ 0 ∷ 99 ∷ 0 ∷ 7 ∷ 0 ∷ 32 ∷ 0 ∷ 4 ∷ 0 ∷ 99 ∷ 0 ∷ 109 ∷ 0 ∷ 8 ∷ 2 ∷ 0 ∷ 33 ∷ 0 ∷ 97 ∷ []

abbrev pub bad_put_owned_7 : List ℕ
bad_put_owned_7 = 16 ∷ 0 ∷ 1 ∷ 0 ∷ 1 ∷ 0 ∷ 0 ∷ 0 ∷ 3 ∷ 0 ∷ 1 ∷ 0 ∷ 0 ∷ 0 ∷ 1 ∷ 5 ∷ 0 ∷ 1 ∷ 0 ∷ 2 ∷ 0 ∷ 97 ∷ 0 ∷ 2 ∷ []

abbrev pub bad_put_owned_8 : List ℕ
bad_put_owned_8 = 16 ∷ 0 ∷ 1 ∷ 0 ∷ 1 ∷ 0 ∷ 0 ∷ 0 ∷ 3 ∷ 0 ∷ 1 ∷ 0 ∷ 0 ∷ 0 ∷ 3 ∷ 5 ∷ 0 ∷ 1 ∷ 0 ∷ 2 ∷ 0 ∷ 107 ∷ 0 ∷ 4 ∷ []

abbrev pub bad_put_owned_9 : List ℕ
bad_put_owned_9 = 20 ∷ 0 ∷ 1 ∷ 0 ∷ 1 ∷ 0 ∷ 0 ∷ 0 ∷ 5 ∷ 0 ∷ 1 ∷ 0 ∷ 2 ∷ 0 ∷ 100 ∷ 0 ∷ 5 ∷ 7 ∷ 0 ∷ 1 ∷ 0 ∷ 4 ∷ 0 ∷ 100 ∷ 0 ∷ 101 ∷ 0 ∷ 6 ∷ []

abbrev pub bad_put_owned_10 : List ℕ
bad_put_owned_10 = 71 ∷ 0 ∷ 2 ∷ 0 ∷ 2 ∷ 0 ∷ 0 ∷ 0 ∷ 6 ∷ 0 ∷ 16 ∷ 0 ∷ 12 ∷ 0 ∷ 114 ∷ 49 ∷ 0 ∷ 255 ∷ 6 ∷ 0 ∷ 16 ∷ 0 ∷ 13 ∷ 0 ∷ 116 ∷ 0 ∷ 117 ∷ 0 ∷ 7 ∷ 0 ∷ 16 ∷ 0 ∷ 14 ∷ 0 ∷ 116 ∷ 0 ∷ 117 ∷ 0 ∷ 255 ∷ 9 ∷ 0 ∷ 32 ∷ 0 ∷ 6 ∷ 0 ∷ 116 ∷ 0 ∷ 117 ∷ 0 ∷ 97 ∷ 0 ∷ 3 ∷ 2 ∷ 0 ∷ 34 ∷ 0 ∷ 116 ∷ 0 ∷ 9 ∷ 0 ∷ 32 ∷ 0 ∷ 6 ∷ 0 ∷ 116 ∷ 0 ∷ 117 ∷ 0 ∷ 98 ∷ 0 ∷ 4 ∷ 4 ∷ 0 ∷ 32 ∷ 0 ∷ 2 ∷ 0 ∷ 98 ∷ []

abbrev pub bad_put_owned_12 : List ℕ
bad_put_owned_12 = 19 ∷ 0 ∷ 1 ∷ 0 ∷ 1 ∷ 0 ∷ 0 ∷ 0 ∷ 7 ∷ 0 ∷ 1 ∷ 0 ∷ 4 ∷ 0 ∷ 114 ∷ 49 ∷ 48 ∷ 0 ∷ 1 ∷ 4 ∷ 0 ∷ 1 ∷ 0 ∷ 2 ∷ 0 ∷ 115 ∷ []

abbrev pub bad_put_owned_13 : List ℕ
bad_put_owned_13 = 16 ∷ 0 ∷ 1 ∷ 0 ∷ 1 ∷ 0 ∷ 0 ∷ 0 ∷ 3 ∷ 0 ∷ 1 ∷ 0 ∷ 0 ∷ 0 ∷ 2 ∷ 5 ∷ 0 ∷ 1 ∷ 0 ∷ 2 ∷ 0 ∷ 97 ∷ 0 ∷ 2 ∷ []

abbrev pub bad_put_owned_14 : List ℕ
bad_put_owned_14 = 20 ∷ 0 ∷ 1 ∷ 0 ∷ 1 ∷ 0 ∷ 0 ∷ 0 ∷ 7 ∷ 0 ∷ 1 ∷ 0 ∷ 4 ∷ 0 ∷ 116 ∷ 0 ∷ 118 ∷ 0 ∷ 3 ∷ 5 ∷ 0 ∷ 1 ∷ 0 ∷ 2 ∷ 0 ∷ 117 ∷ 0 ∷ 3 ∷ []

abbrev pub bad_put_owned_15 : List ℕ
bad_put_owned_15 = 84 ∷ 0 ∷ 2 ∷ 0 ∷ 2 ∷ 0 ∷ 0 ∷ 0 ∷ 67 ∷ 0 ∷ 16 ∷ 0 ∷ 16 ∷ 0 ∷ 118 ∷ 50 ∷ 51 ∷ 52 ∷ 53 ∷ 54 ∷ 55 ∷ 56 ∷ 57 ∷ 48 ∷ 49 ∷ 50 ∷ 51 ∷ 52 ∷ 53 ∷ 54 ∷ 0 ∷ 118 ∷ 50 ∷ 51 ∷ 52 ∷ 53 ∷ 54 ∷ 55 ∷ 56 ∷ 57 ∷ 48 ∷ 49 ∷ 50 ∷ 51 ∷ 52 ∷ 53 ∷ 54 ∷ 0 ∷ 118 ∷ 50 ∷ 51 ∷ 52 ∷ 53 ∷ 54 ∷ 55 ∷ 56 ∷ 57 ∷ 48 ∷ 49 ∷ 50 ∷ 51 ∷ 52 ∷ 53 ∷ 54 ∷ 0 ∷ 118 ∷ 50 ∷ 51 ∷ 52 ∷ 53 ∷ 54 ∷ 55 ∷ 56 ∷ 57 ∷ 48 ∷ 49 ∷ 50 ∷ 0 ∷ 255 ∷ 0 ∷ 0 ∷ 34 ∷ 0 ∷ 5 ∷ 0 ∷ 32 ∷ 0 ∷ 2 ∷ 0 ∷ 122 ∷ 0 ∷ 5 ∷ []

abbrev pub bad_put_owned_16 : List ℕ
bad_put_owned_16 = 0 ∷ 0 ∷ 1 ∷ 0 ∷ 1 ∷ []

abbrev pub bad_put_owned : List ℕ
bad_put_owned = node bad_put_owned_0 ++ replicate (2 * 1024) 0 ++ node bad_put_owned_3 ++ node bad_put_owned_4 ++ node bad_put_owned_5 ++ node bad_put_owned_6 ++ node bad_put_owned_7 ++ node bad_put_owned_8 ++ node bad_put_owned_9 ++ node bad_put_owned_10 ++ replicate (1 * 1024) 0 ++ node bad_put_owned_12 ++ node bad_put_owned_13 ++ node bad_put_owned_14 ++ node bad_put_owned_15 ++ node bad_put_owned_16 ++ replicate (15 * 1024) 0

abbrev pub bad_put_owned_says : Verdict
bad_put_owned_says = record { sound = false; settled = false; used = 0; free = 0; table = [] }

-- bad_clear_shape: two_levels with clear-shape broken
abbrev pub bad_clear_shape_0 : List ℕ
bad_clear_shape_0 = 8 ∷ 0 ∷ 0 ∷ 1 ∷ 32 ∷ 0 ∷ 1 ∷ 0 ∷ 2 ∷ 0 ∷ 4 ∷ []

abbrev pub bad_clear_shape_1 : List ℕ
bad_clear_shape_1 = 135 ∷ 0 ∷ 2 ∷ 0 ∷ 2 ∷ 0 ∷ 0 ∷ 0 ∷ 2 ∷ 0 ∷ 16 ∷ 0 ∷ 2 ∷ 0 ∷ 5 ∷ 0 ∷ 16 ∷ 0 ∷ 3 ∷ 0 ∷ 114 ∷ 49 ∷ 0 ∷ 6 ∷ 0 ∷ 16 ∷ 0 ∷ 4 ∷ 0 ∷ 114 ∷ 49 ∷ 0 ∷ 255 ∷ 7 ∷ 0 ∷ 32 ∷ 0 ∷ 4 ∷ 0 ∷ 97 ∷ 0 ∷ 122 ∷ 0 ∷ 7 ∷ 5 ∷ 0 ∷ 33 ∷ 0 ∷ 114 ∷ 49 ∷ 0 ∷ 97 ∷ 0 ∷ 3 ∷ 0 ∷ 34 ∷ 0 ∷ 114 ∷ 50 ∷ 0 ∷ 0 ∷ 0 ∷ 34 ∷ 0 ∷ 6 ∷ 0 ∷ 32 ∷ 0 ∷ 3 ∷ 0 ∷ 114 ∷ 49 ∷ 0 ∷ 9 ∷ 9 ∷ 0 ∷ 32 ∷ 0 ∷ 5 ∷ 0 ∷ 114 ∷ 49 ∷ 0 ∷ 98 ∷ 0 ∷ 7 ∷ 7 ∷ 7 ∷ 0 ∷ 32 ∷ 0 ∷ 5 ∷ 0 ∷ 114 ∷ 50 ∷ 0 ∷ 120 ∷ 0 ∷ 9 ∷ 0 ∷ 32 ∷ 0 ∷ 6 ∷ 0 ∷ 114 ∷ 49 ∷ 48 ∷ 0 ∷ 113 ∷ 0 ∷ 8 ∷ 6 ∷ 0 ∷ 33 ∷ 0 ∷ 114 ∷ 49 ∷ 48 ∷ 0 ∷ 113 ∷ 0 ∷ 3 ∷ 0 ∷ 34 ∷ 0 ∷ 114 ∷ 49 ∷ 255 ∷ 2 ∷ 0 ∷ 34 ∷ 0 ∷ 98 ∷ 0 ∷ 5 ∷ 0 ∷ 32 ∷ 0 ∷ 2 ∷ 0 ∷ 97 ∷ 0 ∷ 11 ∷ []

abbrev pub bad_clear_shape_2 : List ℕ
bad_clear_shape_2 = 20 ∷ 0 ∷ 1 ∷ 0 ∷ 1 ∷ 0 ∷ 0 ∷ 0 ∷ 5 ∷ 0 ∷ 1 ∷ 0 ∷ 2 ∷ 0 ∷ 97 ∷ 0 ∷ 1 ∷ 7 ∷ 0 ∷ 1 ∷ 0 ∷ 4 ∷ 0 ∷ 98 ∷ 0 ∷ 120 ∷ 0 ∷ 2 ∷ []

abbrev pub bad_clear_shape_3 : List ℕ
bad_clear_shape_3 = 24 ∷ 0 ∷ 1 ∷ 0 ∷ 1 ∷ 0 ∷ 0 ∷ 0 ∷ 2 ∷ 0 ∷ 1 ∷ 0 ∷ 0 ∷ 0 ∷ 5 ∷ 0 ∷ 1 ∷ 0 ∷ 2 ∷ 0 ∷ 97 ∷ 0 ∷ 3 ∷ 5 ∷ 0 ∷ 1 ∷ 0 ∷ 2 ∷ 0 ∷ 99 ∷ 0 ∷ 4 ∷ []

abbrev pub bad_clear_shape_4 : List ℕ
bad_clear_shape_4 = 23 ∷ 0 ∷ 1 ∷ 0 ∷ 1 ∷ 0 ∷ 0 ∷ 0 ∷ 7 ∷ 0 ∷ 1 ∷ 0 ∷ 4 ∷ 0 ∷ 114 ∷ 49 ∷ 48 ∷ 0 ∷ 5 ∷ 8 ∷ 0 ∷ 1 ∷ 0 ∷ 5 ∷ 0 ∷ 114 ∷ 50 ∷ 0 ∷ 120 ∷ 0 ∷ 6 ∷ []

abbrev pub bad_clear_shape : List ℕ
bad_clear_shape = node bad_clear_shape_0 ++ node bad_clear_shape_1 ++ node bad_clear_shape_2 ++ node bad_clear_shape_3 ++ node bad_clear_shape_4 ++ replicate (27 * 1024) 0

abbrev pub bad_clear_shape_says : Verdict
bad_clear_shape_says = record { sound = false; settled = false; used = 0; free = 0; table = [] }

-- bad_node_zeros: long_pivot with node-zeros broken
abbrev pub bad_node_zeros_0 : List ℕ
bad_node_zeros_0 = 8 ∷ 0 ∷ 0 ∷ 1 ∷ 32 ∷ 0 ∷ 9 ∷ 0 ∷ 3 ∷ 0 ∷ 6 ∷ []

abbrev pub bad_node_zeros_1 : List ℕ
bad_node_zeros_1 = 40 ∷ 0 ∷ 2 ∷ 0 ∷ 2 ∷ 0 ∷ 0 ∷ 0 ∷ 36 ∷ 0 ∷ 16 ∷ 0 ∷ 8 ∷ 0 ∷ 116 ∷ 50 ∷ 51 ∷ 52 ∷ 53 ∷ 54 ∷ 55 ∷ 56 ∷ 57 ∷ 48 ∷ 49 ∷ 50 ∷ 51 ∷ 52 ∷ 53 ∷ 54 ∷ 0 ∷ 116 ∷ 50 ∷ 51 ∷ 52 ∷ 53 ∷ 54 ∷ 55 ∷ 56 ∷ 57 ∷ 48 ∷ 49 ∷ 50 ∷ 51 ∷ 52 ∷ 53 ∷ 0 ∷ 255 ∷ []

abbrev pub bad_node_zeros_2 : List ℕ
bad_node_zeros_2 = 6 ∷ 0 ∷ 2 ∷ 0 ∷ 2 ∷ 0 ∷ 0 ∷ 0 ∷ 2 ∷ 0 ∷ 16 ∷ 0 ∷ 3 ∷ []

abbrev pub bad_node_zeros_3 : List ℕ
bad_node_zeros_3 = 9 ∷ 0 ∷ 1 ∷ 0 ∷ 1 ∷ 0 ∷ 0 ∷ 0 ∷ 5 ∷ 0 ∷ 1 ∷ 0 ∷ 2 ∷ 0 ∷ 97 ∷ 0 ∷ 5 ∷ []

abbrev pub bad_node_zeros_4 : List ℕ
bad_node_zeros_4 = 117 ∷ 0 ∷ 2 ∷ 0 ∷ 2 ∷ 0 ∷ 0 ∷ 0 ∷ 2 ∷ 0 ∷ 16 ∷ 0 ∷ 5 ∷ 0 ∷ 51 ∷ 0 ∷ 16 ∷ 0 ∷ 6 ∷ 0 ∷ 109 ∷ 50 ∷ 51 ∷ 52 ∷ 53 ∷ 54 ∷ 55 ∷ 56 ∷ 57 ∷ 48 ∷ 49 ∷ 50 ∷ 51 ∷ 52 ∷ 53 ∷ 54 ∷ 0 ∷ 109 ∷ 50 ∷ 51 ∷ 52 ∷ 53 ∷ 54 ∷ 55 ∷ 56 ∷ 57 ∷ 48 ∷ 49 ∷ 50 ∷ 51 ∷ 52 ∷ 53 ∷ 54 ∷ 0 ∷ 109 ∷ 50 ∷ 51 ∷ 52 ∷ 53 ∷ 54 ∷ 55 ∷ 56 ∷ 57 ∷ 48 ∷ 49 ∷ 50 ∷ 51 ∷ 52 ∷ 0 ∷ 52 ∷ 0 ∷ 16 ∷ 0 ∷ 7 ∷ 0 ∷ 109 ∷ 50 ∷ 51 ∷ 52 ∷ 53 ∷ 54 ∷ 55 ∷ 56 ∷ 57 ∷ 48 ∷ 49 ∷ 50 ∷ 51 ∷ 52 ∷ 53 ∷ 54 ∷ 0 ∷ 109 ∷ 50 ∷ 51 ∷ 52 ∷ 53 ∷ 54 ∷ 55 ∷ 56 ∷ 57 ∷ 48 ∷ 49 ∷ 50 ∷ 51 ∷ 52 ∷ 53 ∷ 54 ∷ 0 ∷ 109 ∷ 50 ∷ 51 ∷ 52 ∷ 53 ∷ 54 ∷ 55 ∷ 56 ∷ 57 ∷ 48 ∷ 49 ∷ 50 ∷ 51 ∷ 52 ∷ 0 ∷ 255 ∷ []

abbrev pub bad_node_zeros_5 : List ℕ
bad_node_zeros_5 = 18 ∷ 0 ∷ 1 ∷ 0 ∷ 1 ∷ 0 ∷ 0 ∷ 0 ∷ 5 ∷ 0 ∷ 1 ∷ 0 ∷ 2 ∷ 0 ∷ 97 ∷ 0 ∷ 1 ∷ 5 ∷ 0 ∷ 1 ∷ 0 ∷ 2 ∷ 0 ∷ 98 ∷ 0 ∷ 2 ∷ []

abbrev pub bad_node_zeros_6 : List ℕ
bad_node_zeros_6 = 0 ∷ 0 ∷ 1 ∷ 0 ∷ 1 ∷ []

abbrev pub bad_node_zeros_7 : List ℕ
bad_node_zeros_7 = 20 ∷ 0 ∷ 1 ∷ 0 ∷ 1 ∷ 0 ∷ 0 ∷ 0 ∷ 5 ∷ 0 ∷ 1 ∷ 0 ∷ 2 ∷ 0 ∷ 120 ∷ 0 ∷ 3 ∷ 7 ∷ 0 ∷ 1 ∷ 0 ∷ 4 ∷ 0 ∷ 121 ∷ 0 ∷ 122 ∷ 0 ∷ 4 ∷ []

abbrev pub bad_node_zeros_8 : List ℕ
bad_node_zeros_8 = 9 ∷ 0 ∷ 1 ∷ 0 ∷ 1 ∷ 0 ∷ 0 ∷ 0 ∷ 5 ∷ 0 ∷ 1 ∷ 0 ∷ 2 ∷ 0 ∷ 117 ∷ 0 ∷ 6 ∷ 0 ∷ 0 ∷ 0 ∷ 0 ∷ 0 ∷ 0 ∷ 0 ∷ 0 ∷ 0 ∷ 0 ∷ 0 ∷ 0 ∷ 0 ∷ 0 ∷ 0 ∷ 0 ∷ 0 ∷ 0 ∷ 0 ∷ 0 ∷ 0 ∷ 0 ∷ 0 ∷ 0 ∷ 0 ∷ 0 ∷ 0 ∷ 0 ∷ 0 ∷ 0 ∷ 0 ∷ 0 ∷ 0 ∷ 0 ∷ 0 ∷ 95 ∷ []

abbrev pub bad_node_zeros_9 : List ℕ
bad_node_zeros_9 = 85 ∷ 0 ∷ 2 ∷ 0 ∷ 3 ∷ 0 ∷ 0 ∷ 0 ∷ 2 ∷ 0 ∷ 16 ∷ 0 ∷ 2 ∷ 0 ∷ 35 ∷ 0 ∷ 16 ∷ 0 ∷ 4 ∷ 0 ∷ 116 ∷ 50 ∷ 51 ∷ 52 ∷ 53 ∷ 54 ∷ 55 ∷ 56 ∷ 57 ∷ 48 ∷ 49 ∷ 50 ∷ 51 ∷ 52 ∷ 53 ∷ 54 ∷ 0 ∷ 116 ∷ 50 ∷ 51 ∷ 52 ∷ 53 ∷ 54 ∷ 55 ∷ 56 ∷ 57 ∷ 48 ∷ 49 ∷ 50 ∷ 51 ∷ 52 ∷ 53 ∷ 0 ∷ 36 ∷ 0 ∷ 16 ∷ 0 ∷ 1 ∷ 0 ∷ 116 ∷ 50 ∷ 51 ∷ 52 ∷ 53 ∷ 54 ∷ 55 ∷ 56 ∷ 57 ∷ 48 ∷ 49 ∷ 50 ∷ 51 ∷ 52 ∷ 53 ∷ 54 ∷ 0 ∷ 116 ∷ 50 ∷ 51 ∷ 52 ∷ 53 ∷ 54 ∷ 55 ∷ 56 ∷ 57 ∷ 48 ∷ 49 ∷ 50 ∷ 51 ∷ 52 ∷ 53 ∷ 0 ∷ 255 ∷ []

abbrev pub bad_node_zeros : List ℕ
bad_node_zeros = node bad_node_zeros_0 ++ node bad_node_zeros_1 ++ node bad_node_zeros_2 ++ node bad_node_zeros_3 ++ node bad_node_zeros_4 ++ node bad_node_zeros_5 ++ node bad_node_zeros_6 ++ node bad_node_zeros_7 ++ node bad_node_zeros_8 ++ node bad_node_zeros_9 ++ replicate (22 * 1024) 0

abbrev pub bad_node_zeros_says : Verdict
bad_node_zeros_says = record { sound = false; settled = false; used = 0; free = 0; table = [] }

-- bad_pair_value: long_values with pair-value broken
abbrev pub bad_pair_value_0 : List ℕ
bad_pair_value_0 = 8 ∷ 0 ∷ 0 ∷ 1 ∷ 32 ∷ 0 ∷ 1 ∷ 0 ∷ 2 ∷ 0 ∷ 4 ∷ []

abbrev pub bad_pair_value_1 : List ℕ
bad_pair_value_1 = 102 ∷ 0 ∷ 2 ∷ 0 ∷ 2 ∷ 0 ∷ 0 ∷ 0 ∷ 2 ∷ 0 ∷ 16 ∷ 0 ∷ 2 ∷ 0 ∷ 52 ∷ 0 ∷ 32 ∷ 0 ∷ 2 ∷ 0 ∷ 97 ∷ 0 ∷ 1 ∷ 2 ∷ 3 ∷ 4 ∷ 5 ∷ 6 ∷ 7 ∷ 8 ∷ 9 ∷ 10 ∷ 11 ∷ 12 ∷ 13 ∷ 14 ∷ 15 ∷ 16 ∷ 17 ∷ 18 ∷ 19 ∷ 20 ∷ 21 ∷ 22 ∷ 23 ∷ 24 ∷ 25 ∷ 26 ∷ 27 ∷ 28 ∷ 29 ∷ 30 ∷ 31 ∷ 32 ∷ 33 ∷ 34 ∷ 35 ∷ 36 ∷ 37 ∷ 38 ∷ 39 ∷ 40 ∷ 41 ∷ 42 ∷ 43 ∷ 44 ∷ 45 ∷ 46 ∷ 47 ∷ 48 ∷ 36 ∷ 0 ∷ 32 ∷ 0 ∷ 2 ∷ 0 ∷ 100 ∷ 0 ∷ 1 ∷ 2 ∷ 3 ∷ 4 ∷ 5 ∷ 6 ∷ 7 ∷ 8 ∷ 9 ∷ 10 ∷ 11 ∷ 12 ∷ 13 ∷ 14 ∷ 15 ∷ 16 ∷ 17 ∷ 18 ∷ 19 ∷ 20 ∷ 21 ∷ 22 ∷ 23 ∷ 24 ∷ 25 ∷ 26 ∷ 27 ∷ 28 ∷ 29 ∷ 30 ∷ 31 ∷ 32 ∷ []

abbrev pub bad_pair_value_2 : List ℕ
bad_pair_value_2 = 138 ∷ 0 ∷ 1 ∷ 0 ∷ 1 ∷ 0 ∷ 0 ∷ 0 ∷ 36 ∷ 0 ∷ 1 ∷ 0 ∷ 2 ∷ 0 ∷ 97 ∷ 0 ∷ 1 ∷ 2 ∷ 3 ∷ 4 ∷ 5 ∷ 6 ∷ 7 ∷ 8 ∷ 9 ∷ 10 ∷ 11 ∷ 12 ∷ 13 ∷ 14 ∷ 15 ∷ 16 ∷ 17 ∷ 18 ∷ 19 ∷ 20 ∷ 21 ∷ 22 ∷ 23 ∷ 24 ∷ 25 ∷ 26 ∷ 27 ∷ 28 ∷ 29 ∷ 30 ∷ 31 ∷ 32 ∷ 37 ∷ 0 ∷ 1 ∷ 0 ∷ 2 ∷ 0 ∷ 98 ∷ 0 ∷ 1 ∷ 2 ∷ 3 ∷ 4 ∷ 5 ∷ 6 ∷ 7 ∷ 8 ∷ 9 ∷ 10 ∷ 11 ∷ 12 ∷ 13 ∷ 14 ∷ 15 ∷ 16 ∷ 17 ∷ 18 ∷ 19 ∷ 20 ∷ 21 ∷ 22 ∷ 23 ∷ 24 ∷ 25 ∷ 26 ∷ 27 ∷ 28 ∷ 29 ∷ 30 ∷ 31 ∷ 32 ∷ 33 ∷ 53 ∷ 0 ∷ 1 ∷ 0 ∷ 2 ∷ 0 ∷ 99 ∷ 0 ∷ 100 ∷ 246 ∷ 231 ∷ 255 ∷ 122 ∷ 130 ∷ 242 ∷ 195 ∷ 41 ∷ 251 ∷ 23 ∷ 63 ∷ 181 ∷ 70 ∷ 196 ∷ 79 ∷ 179 ∷ 178 ∷ 199 ∷ 123 ∷ 179 ∷ 60 ∷ 188 ∷ 88 ∷ 134 ∷ 101 ∷ 74 ∷ 174 ∷ 123 ∷ 79 ∷ 242 ∷ 185 ∷ 131 ∷ 229 ∷ 3 ∷ 246 ∷ 174 ∷ 211 ∷ 52 ∷ 189 ∷ 255 ∷ 204 ∷ 135 ∷ 88 ∷ 188 ∷ 120 ∷ 20 ∷ 64 ∷ 108 ∷ []

abbrev pub bad_pair_value : List ℕ
bad_pair_value = node bad_pair_value_0 ++ node bad_pair_value_1 ++ node bad_pair_value_2 ++ replicate (29 * 1024) 0

abbrev pub bad_pair_value_says : Verdict
bad_pair_value_says = record { sound = false; settled = false; used = 0; free = 0; table = [] }

-- bad_put_value: long_values with put-value broken
abbrev pub bad_put_value_0 : List ℕ
bad_put_value_0 = 8 ∷ 0 ∷ 0 ∷ 1 ∷ 32 ∷ 0 ∷ 1 ∷ 0 ∷ 2 ∷ 0 ∷ 4 ∷ []

abbrev pub bad_put_value_1 : List ℕ
bad_put_value_1 = 159 ∷ 0 ∷ 2 ∷ 0 ∷ 2 ∷ 0 ∷ 0 ∷ 0 ∷ 2 ∷ 0 ∷ 16 ∷ 0 ∷ 2 ∷ 0 ∷ 53 ∷ 0 ∷ 32 ∷ 0 ∷ 2 ∷ 0 ∷ 97 ∷ 0 ∷ 4 ∷ 116 ∷ 250 ∷ 198 ∷ 180 ∷ 166 ∷ 7 ∷ 8 ∷ 53 ∷ 199 ∷ 233 ∷ 28 ∷ 110 ∷ 185 ∷ 77 ∷ 167 ∷ 58 ∷ 189 ∷ 137 ∷ 58 ∷ 82 ∷ 36 ∷ 124 ∷ 6 ∷ 32 ∷ 27 ∷ 115 ∷ 243 ∷ 180 ∷ 5 ∷ 125 ∷ 181 ∷ 160 ∷ 242 ∷ 2 ∷ 136 ∷ 46 ∷ 93 ∷ 81 ∷ 65 ∷ 170 ∷ 122 ∷ 224 ∷ 243 ∷ 227 ∷ 39 ∷ 121 ∷ 20 ∷ 133 ∷ 52 ∷ 0 ∷ 32 ∷ 0 ∷ 2 ∷ 0 ∷ 97 ∷ 0 ∷ 1 ∷ 2 ∷ 3 ∷ 4 ∷ 5 ∷ 6 ∷ 7 ∷ 8 ∷ 9 ∷ 10 ∷ 11 ∷ 12 ∷ 13 ∷ 14 ∷ 15 ∷ 16 ∷ 17 ∷ 18 ∷ 19 ∷ 20 ∷ 21 ∷ 22 ∷ 23 ∷ 24 ∷ 25 ∷ 26 ∷ 27 ∷ 28 ∷ 29 ∷ 30 ∷ 31 ∷ 32 ∷ 33 ∷ 34 ∷ 35 ∷ 36 ∷ 37 ∷ 38 ∷ 39 ∷ 40 ∷ 41 ∷ 42 ∷ 43 ∷ 44 ∷ 45 ∷ 46 ∷ 47 ∷ 48 ∷ 36 ∷ 0 ∷ 32 ∷ 0 ∷ 2 ∷ 0 ∷ 100 ∷ 0 ∷ 1 ∷ 2 ∷ 3 ∷ 4 ∷ 5 ∷ 6 ∷ 7 ∷ 8 ∷ 9 ∷ 10 ∷ 11 ∷ 12 ∷ 13 ∷ 14 ∷ 15 ∷ 16 ∷ 17 ∷ 18 ∷ 19 ∷ 20 ∷ 21 ∷ 22 ∷ 23 ∷ 24 ∷ 25 ∷ 26 ∷ 27 ∷ 28 ∷ 29 ∷ 30 ∷ 31 ∷ 32 ∷ []

abbrev pub bad_put_value_2 : List ℕ
bad_put_value_2 = 137 ∷ 0 ∷ 1 ∷ 0 ∷ 1 ∷ 0 ∷ 0 ∷ 0 ∷ 36 ∷ 0 ∷ 1 ∷ 0 ∷ 2 ∷ 0 ∷ 97 ∷ 0 ∷ 1 ∷ 2 ∷ 3 ∷ 4 ∷ 5 ∷ 6 ∷ 7 ∷ 8 ∷ 9 ∷ 10 ∷ 11 ∷ 12 ∷ 13 ∷ 14 ∷ 15 ∷ 16 ∷ 17 ∷ 18 ∷ 19 ∷ 20 ∷ 21 ∷ 22 ∷ 23 ∷ 24 ∷ 25 ∷ 26 ∷ 27 ∷ 28 ∷ 29 ∷ 30 ∷ 31 ∷ 32 ∷ 37 ∷ 0 ∷ 1 ∷ 0 ∷ 2 ∷ 0 ∷ 98 ∷ 0 ∷ 1 ∷ 2 ∷ 3 ∷ 4 ∷ 5 ∷ 6 ∷ 7 ∷ 8 ∷ 9 ∷ 10 ∷ 11 ∷ 12 ∷ 13 ∷ 14 ∷ 15 ∷ 16 ∷ 17 ∷ 18 ∷ 19 ∷ 20 ∷ 21 ∷ 22 ∷ 23 ∷ 24 ∷ 25 ∷ 26 ∷ 27 ∷ 28 ∷ 29 ∷ 30 ∷ 31 ∷ 32 ∷ 33 ∷ 52 ∷ 0 ∷ 1 ∷ 0 ∷ 2 ∷ 0 ∷ 99 ∷ 0 ∷ 1 ∷ 2 ∷ 3 ∷ 4 ∷ 5 ∷ 6 ∷ 7 ∷ 8 ∷ 9 ∷ 10 ∷ 11 ∷ 12 ∷ 13 ∷ 14 ∷ 15 ∷ 16 ∷ 17 ∷ 18 ∷ 19 ∷ 20 ∷ 21 ∷ 22 ∷ 23 ∷ 24 ∷ 25 ∷ 26 ∷ 27 ∷ 28 ∷ 29 ∷ 30 ∷ 31 ∷ 32 ∷ 33 ∷ 34 ∷ 35 ∷ 36 ∷ 37 ∷ 38 ∷ 39 ∷ 40 ∷ 41 ∷ 42 ∷ 43 ∷ 44 ∷ 45 ∷ 46 ∷ 47 ∷ 48 ∷ []

abbrev pub bad_put_value : List ℕ
bad_put_value = node bad_put_value_0 ++ node bad_put_value_1 ++ node bad_put_value_2 ++ replicate (29 * 1024) 0

abbrev pub bad_put_value_says : Verdict
bad_put_value_says = record { sound = false; settled = false; used = 0; free = 0; table = [] }

abbrev pub flush_two_levels : Change
flush_two_levels = record { node = 1; before = two_levels; after = two_levels_flushed }

abbrev pub flush_two_levels_keeps : Kept
flush_two_levels_keeps = record { none_waits = true; flushed = true; healed = false; none_gains = true }

abbrev pub flush_two_levels_changes : ℕ
flush_two_levels_changes = 4

abbrev pub flush_three_levels : Change
flush_three_levels = record { node = 3; before = three_levels; after = three_levels_flushed }

abbrev pub flush_three_levels_keeps : Kept
flush_three_levels_keeps = record { none_waits = true; flushed = true; healed = false; none_gains = false }

abbrev pub flush_three_levels_changes : ℕ
flush_three_levels_changes = 4

abbrev pub flush_four_levels : Change
flush_four_levels = record { node = 9; before = four_levels; after = four_levels_flushed }

abbrev pub flush_four_levels_keeps : Kept
flush_four_levels_keeps = record { none_waits = true; flushed = true; healed = false; none_gains = false }

abbrev pub flush_four_levels_changes : ℕ
flush_four_levels_changes = 3

abbrev pub flush_nothing : Change
flush_nothing = record { node = 1; before = two_levels; after = two_levels }

abbrev pub flush_nothing_keeps : Kept
flush_nothing_keeps = record { none_waits = false; flushed = false; healed = false; none_gains = true }

abbrev pub flush_nothing_changes : ℕ
flush_nothing_changes = 0

abbrev pub flush_raised : Change
flush_raised = record { node = 1; before = two_levels; after = two_levels_raised }

abbrev pub flush_raised_keeps : Kept
flush_raised_keeps = record { none_waits = true; flushed = false; healed = false; none_gains = true }

abbrev pub flush_raised_changes : ℕ
flush_raised_changes = 3

abbrev pub flush_lifted : Change
flush_lifted = record { node = 1; before = two_levels; after = two_levels_lifted }

abbrev pub flush_lifted_keeps : Kept
flush_lifted_keeps = record { none_waits = true; flushed = false; healed = false; none_gains = false }

abbrev pub flush_lifted_changes : ℕ
flush_lifted_changes = 3

abbrev pub heal_two_levels : Change
heal_two_levels = record { node = 1; before = two_levels; after = two_levels_healed }

abbrev pub heal_two_levels_keeps : Kept
heal_two_levels_keeps = record { none_waits = false; flushed = false; healed = true; none_gains = true }

abbrev pub heal_two_levels_changes : ℕ
heal_two_levels_changes = 2

abbrev pub heal_long_pivot : Change
heal_long_pivot = record { node = 4; before = long_pivot; after = long_pivot_healed }

abbrev pub heal_long_pivot_keeps : Kept
heal_long_pivot_keeps = record { none_waits = true; flushed = true; healed = true; none_gains = true }

abbrev pub heal_long_pivot_changes : ℕ
heal_long_pivot_changes = 2

abbrev pub heal_nothing_fits : Change
heal_nothing_fits = record { node = 9; before = long_pivot; after = long_pivot }

abbrev pub heal_nothing_fits_keeps : Kept
heal_nothing_fits_keeps = record { none_waits = true; flushed = true; healed = true; none_gains = true }

abbrev pub heal_nothing_fits_changes : ℕ
heal_nothing_fits_changes = 0

abbrev pub heal_nothing : Change
heal_nothing = record { node = 1; before = two_levels; after = two_levels }

abbrev pub heal_nothing_keeps : Kept
heal_nothing_keeps = record { none_waits = false; flushed = false; healed = false; none_gains = true }

abbrev pub heal_nothing_changes : ℕ
heal_nothing_changes = 0

abbrev pub heal_level_between : Change
heal_level_between = record { node = 1; before = two_levels; after = two_levels_raised }

abbrev pub heal_level_between_keeps : Kept
heal_level_between_keeps = record { none_waits = true; flushed = false; healed = false; none_gains = true }

abbrev pub heal_level_between_changes : ℕ
heal_level_between_changes = 3
