-- A store in which one node is written anew, and the room of the other nodes in it.
-- Relies on WriteNode's laws; LeafRoom, TakesLaws and the code's loop over the children use it.
use Rattle.std.specs.Prelude.{ℕ, ◌+◌, ◌*◌, ◌-◌, ◌≤◌, ◌≡◌, refl, List, [], ◌∷◌, ◌++◌, true, false, ◌&&◌, not, length, drop, ltb, leb, eqb}
use Rattle.image.specs.Prelude.{sym, ap, ap₂, ◌∙◌, arith, length-append, length-take, leb-true, eqb-false}
use Rattle.image.specs.Bytes.{u16}
use Rattle.image.specs.Entry.{Entry}
use Rattle.image.specs.Image.{Branch, node_bytes, nodes_of}
use Rattle.image.specs.Sound.{is_in, once}
use Rattle.octets.specs.Order.{and_left, and_right, not-true, or-none-right, or-none-left}
use Rattle.laws.specs.Rising.{both}
use Rattle.laws.specs.WriteNode.{write-length, write_same, write-other}
use Rattle.laws.specs.Page.{page, page-length}
use Rattle.laws.specs.Reading.Relative.{branch_high}
use Rattle.lookup.specs.Look.{below_length, count-is}
use Rattle.push.specs.Laws.Arriving.{brought_all}
use Rattle.push.specs.Laws.Written.{body_of, lengthened, interior_takes, has_room, all_have_room, branch_numbers}

-- only node i differs
pub record Only (s s' : List ℕ) (i : ℕ) : Type 0 where
  pub size : length s' ≡ length s
  pub other : (j : ℕ) → (j ≡ i → ⊥) → node_bytes s' j ≡ node_bytes s j

-- WHAT ROOM SAYS
pub room-inside : (es : List Entry) (i : ℕ) (lo hi s : List ℕ) → has_room es i lo hi s ≡ true → i * 1024 + 1024 ≤ length s
unfolding has_room
room-inside es i lo hi s e = below_length s i (and_left _ _ e)

pub room_fits : (es : List Entry) (i : ℕ) (lo hi s : List ℕ) → has_room es i lo hi s ≡ true → u16 s (i * 1024) + length (brought_all es lo hi) ≤ 1016
unfolding has_room
room_fits es i lo hi s e = leb-true (u16 s (i * 1024) + length (brought_all es lo hi)) 1016 (and_right (ltb i (nodes_of (length s))) _ e)

pub body-short : (s : List ℕ) (i : ℕ) → length (body_of s i) ≤ u16 s (i * 1024)
body-short s i =
    let n = length-take (i * 1024 + 8 + u16 s (i * 1024) - (i * 1024 + 8)) (drop (i * 1024 + 8) s) in
    omega arith

-- THE CHILD THAT IS WRITTEN
module _ (es : List Entry) (i : ℕ) (lo hi s : List ℕ) (room : has_room es i lo hi s ≡ true) where
  inside : 1024 * i + 1024 ≤ length s
  inside = omega (arith, room-inside es i lo hi s room)

  pub body-fits : length (body_of s i ++ brought_all es lo hi) ≤ 1016
  body-fits = omega (arith, room_fits es i lo hi s room, body-short s i, length-append (body_of s i) (brought_all es lo hi))

  full : length (page 2 (u16 s (i * 1024 + 4)) (body_of s i ++ brought_all es lo hi)) ≡ 1024
  full = page-length 2 (u16 s (i * 1024 + 4)) (body_of s i ++ brought_all es lo hi) body-fits

  pub interior-only : Only s (interior_takes es i lo hi s) i
  unfolding interior_takes lengthened
  interior-only =
      record {
        size = write-length s i (page 2 (u16 s (i * 1024 + 4)) (body_of s i ++ brought_all es lo hi)) inside full;
        other = λ j n. write-other s i (page 2 (u16 s (i * 1024 + 4)) (body_of s i ++ brought_all es lo hi)) inside full j n;
      }

  pub interior-same : node_bytes (interior_takes es i lo hi s) i ≡ page 2 (u16 s (i * 1024 + 4)) (body_of s i ++ brought_all es lo hi)
  unfolding interior_takes lengthened
  interior-same = write_same s i (page 2 (u16 s (i * 1024 + 4)) (body_of s i ++ brought_all es lo hi)) inside full

-- THE OTHERS KEEP THEIR ROOM
pub size-stays : (s s' : List ℕ) (i j : ℕ) → Only s s' i → (j ≡ i → ⊥) → j * 1024 + 1024 ≤ length s → u16 s' (j * 1024) ≡ u16 s (j * 1024)
size-stays s s' i j o n h =
    let z = o.size in
    sym (count-is s' j (omega arith)) ∙ ap (λ l. u16 l 0) (o.other j n) ∙ count-is s j h

pub room-stays : (es : List Entry) (j : ℕ) (lo hi s s' : List ℕ) (i : ℕ) → Only s s' i → (j ≡ i → ⊥) → has_room es j lo hi s ≡ true → has_room es j lo hi s' ≡ true
unfolding has_room
room-stays es j lo hi s s' i o n e =
    ap₂ (λ a b. ltb j (nodes_of a) && leb (b + length (brought_all es lo hi)) 1016) o.size (size-stays s s' i j o n (room-inside es j lo hi s e)) ∙ e

no-branch : (i : ℕ) (k : Branch) (ks : List Branch) → is_in i (branch_numbers (k ∷ ks)) ≡ false → (k.number ≡ i → ⊥) × (is_in i (branch_numbers ks) ≡ false)
unfolding branch_numbers is_in
no-branch i k ks e =
    (λ q. eqb-false i k.number (or-none-left (eqb i k.number) (is_in i (branch_numbers ks)) e) (sym q), or-none-right (eqb i k.number) (is_in i (branch_numbers ks)) e)

pub rooms-stay : (es : List Entry) (ks : List Branch) (hi s s' : List ℕ) (i : ℕ) → Only s s' i → is_in i (branch_numbers ks) ≡ false
    → all_have_room es ks hi s ≡ true → all_have_room es ks hi s' ≡ true
unfolding all_have_room
rooms-stay es [] hi s s' i o n e = refl
rooms-stay es (k ∷ ks) hi s s' i o n e =
    both (room-stays es k.number k.pivot (branch_high hi ks) s s' i o (no-branch i k ks n).0 (and_left _ _ e))
    (rooms-stay es ks hi s s' i o (no-branch i k ks n).1 (and_right (has_room es k.number k.pivot (branch_high hi ks) s) _ e))

-- ONE CHILD AFTER ANOTHER
pub once-first : (k : Branch) (ks : List Branch) → once (branch_numbers (k ∷ ks)) ≡ true → (is_in k.number (branch_numbers ks) ≡ false) × (once (branch_numbers ks) ≡ true)
unfolding branch_numbers once
once-first k ks e = (not-true (is_in k.number (branch_numbers ks)) (and_left _ _ e), and_right (not (is_in k.number (branch_numbers ks))) _ e)

pub room-first : (es : List Entry) (k : Branch) (ks : List Branch) (hi s : List ℕ) → all_have_room es (k ∷ ks) hi s ≡ true → has_room es k.number k.pivot (branch_high hi ks) s ≡ true
unfolding all_have_room
room-first es k ks hi s e = and_left _ _ e

pub room-later : (es : List Entry) (k : Branch) (ks : List Branch) (hi s : List ℕ) → all_have_room es (k ∷ ks) hi s ≡ true → all_have_room es ks hi s ≡ true
unfolding all_have_room
room-later es k ks hi s e = and_right (has_room es k.number k.pivot (branch_high hi ks) s) _ e
