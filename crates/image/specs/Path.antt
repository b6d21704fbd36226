-- Document 01, "Paths and values": which strings are paths, what is below a path, what a range owns, which values fit.
use Rattle.std.specs.Prelude.{ℕ, suc, List, [], ◌∷◌, Bool, ◌&&◌, ◌||◌, not, cond, length, leb, eqb}
use Rattle.image.specs.Bytes.{same, before, begins}

-- a path, a suffix, a pivot and a value are lists of bytes
abbrev pub Pathname : Type 0
Pathname = List ℕ

abbrev pub Value : Type 0
Value = List ℕ

-- "A path is 1 to 8 components, each 1 to 16 bytes .. Its whole length, the 00 bytes counted, is at most 64."
abbrev pub components_limit : ℕ
components_limit = 8

abbrev pub component_limit : ℕ
component_limit = 16

abbrev pub path_limit : ℕ
path_limit = 64

-- a byte of a component: "from hexadecimal 21 to 7E without 2F"
unfoldable pub letter : ℕ → Bool
letter b = leb 0x21 b && leb b 0x7E && not (eqb b 0x2F)

-- What is left of a path reads on, after `done` whole components and `here` bytes of the next: each component is letters within its
-- limit, "each followed by a byte 00", and there are at least one and at most eight.
unfoldable pub reads_on : ℕ → ℕ → Pathname → Bool
reads_on done here [] = leb 1 done && leb done components_limit && eqb here 0
reads_on done here (b ∷ p) =
    cond (eqb b 0) (leb 1 here && leb here component_limit && reads_on (suc done) 0 p) (letter b && reads_on done (suc here) p)

-- a well-formed path
unfoldable pub well_formed : Pathname → Bool
well_formed p = leb (length p) path_limit && reads_on 0 0 p

-- The empty path, or a well-formed one. The empty path is no path of the map: it stands before all others, and every path is below it.
abbrev pub path_or_empty : Pathname → Bool
path_or_empty p = same p [] || well_formed p

-- "A path is below each path that it begins with, itself included": p is below q
unfoldable pub below : Pathname → Pathname → Bool
below p q = begins q p

-- p is a beginning of q, and not q
unfoldable pub proper_beginning : Pathname → Pathname → Bool
proper_beginning p q = begins p q && not (same p q)

-- question 7: "Is neither path a proper beginning of the other?"
unfoldable pub may_move : Pathname → Pathname → Bool
may_move from to = not (proper_beginning from to) && not (proper_beginning to from)

-- "A node owns the strings from its low pivot up to, not including, its high pivot": lo and hi own p
unfoldable pub owns : Pathname → Pathname → Pathname → Bool
owns lo hi p = not (before p lo) && before p hi

-- "A value is 0 to 32 bytes; an empty value is still a value." Request S-2: "The value limit becomes 48 bytes".
abbrev pub value_limit : ℕ
value_limit = 48

unfoldable pub value_fits : Value → Bool
value_fits v = leb (length v) value_limit
