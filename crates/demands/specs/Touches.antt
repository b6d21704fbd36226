-- Which paths a call touches, told from the call and its answer alone, and that a path that is not touched keeps what it has.
-- For the theorems of demand 2 about single paths. Relies on the laws of the changes of a table (laws, FindMoved).
use Rattle.std.specs.Prelude.{ℕ, ◌≡◌, refl, List, [], ◌∷◌, ◌++◌, Bool, true, false, ◌&&◌, ◌||◌, not, length, drop, eqb}
use Rattle.image.specs.Prelude.{sym, ap, ◌∙◌}
use Rattle.image.specs.Bytes.{same, begins}
use Rattle.image.specs.Path.{below}
use Rattle.image.specs.Table.{Row, find, moved}
use Rattle.image.specs.Calls.{Call, acts, keeps, asks, Act, put, drops, clear, move, settle, tidy, Answer, number_of, act_table}
use Rattle.octets.specs.Order.{same-eq, begins-split, or-none-right as or_right, or-none-left as or_left}
use Rattle.laws.specs.Tables.{find-with-other, find-without-other, find-spared}
use Rattle.demands.specs.FindMoved.{find-moved-to, find-moved-other}

-- An accepted put or drop touches the path that it names; a clear every path below its own; a move every path below from and every path
-- below to, but nothing where from equals to; settle and tidy nothing.
unfoldable pub act_touches : Act → List ℕ → Bool
act_touches (put q v) p = same p q
act_touches (drops q) p = same p q
act_touches (clear q) p = below p q
act_touches (move from to) p = not (same from to) && (below p from || below p to)
act_touches settle p = false
act_touches tidy p = false

-- flush, heal, get and next touch nothing
unfoldable pub call_touches : Call → List ℕ → Bool
call_touches (acts x work) p = act_touches x p
call_touches (keeps u i work) p = false
call_touches (asks q buffer) p = false

-- the call with this answer touches p: a refused call, whose number is not 0, touches nothing
unfoldable pub touches : Call → Answer → List ℕ → Bool
touches c a p = eqb (number_of a) 0 && call_touches c p

-- no call of a list touches p
unfoldable pub untouched : List ℕ → List Call → List Answer → Bool
untouched p [] given = true
untouched p (c ∷ cs) [] = true
untouched p (c ∷ cs) (a ∷ given) = not (touches c a p) && untouched p cs given

-- a move from a path to itself, and a move aside
move-spares : (from to p : List ℕ) (t : List Row) → not (same from to) && (begins from p || begins to p) ≡ false → find p (moved from to t) ≡ find p t
move-spares from to p t e = by-ends (same from to) refl
  where
    in_place : from ≡ to → (x : Bool) → begins to p ≡ x → find p (moved from to t) ≡ find p t
    in_place z true b =
        let split : to ++ drop (length to) p ≡ p = begins-split to p b in
        ap (λ q. find q (moved from to t)) (sym split)
        ∙ find-moved-to from to (drop (length to) p) t
        ∙ ap (λ q. find q t) (ap (λ l. l ++ drop (length to) p) z ∙ split)
    in_place z false b = find-moved-other from to p t b (rw z b)

    by-ends : (x : Bool) → same from to ≡ x → find p (moved from to t) ≡ find p t
    by-ends true f = in_place (same-eq from to f) (begins to p) refl
    by-ends false f =
        let aside : begins from p || begins to p ≡ false = rw f at e in
        find-moved-other from to p t (or_right (begins from p) (begins to p) aside) (or_left (begins from p) (begins to p) aside)

pub act-spares : (x : Act) (p : List ℕ) (t : List Row) → act_touches x p ≡ false → find p (act_table x t) ≡ find p t
unfolding act_touches act_table below
act-spares (put q v) p t e = find-with-other p q v t e
act-spares (drops q) p t e = find-without-other p q t e
act-spares (clear q) p t e = find-spared p q t e
act-spares (move from to) p t e = move-spares from to p t e
act-spares settle p t e = refl
act-spares tidy p t e = refl
