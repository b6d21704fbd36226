-- Step lemmas of the tests and sizes: which messages touch a child, and how many bytes they bring.
-- Relies on Laws/Arriving and on what node's readers lend.
use Rattle.std.specs.Prelude.{ℕ, ◌+◌, ◌*◌, ◌<◌, ◌≤◌, ◌≡◌, refl, List, [], ◌∷◌, Bool, true, false, ◌||◌, ◌&&◌, cond, length, take, drop, leb}
use Rattle.std.specs.Borrow.{Bor}
use Rattle.image.specs.Prelude.{sym, ap, ◌∙◌, arith, length-append, length-drop, le-ltb, lt-ltb}
use Rattle.image.specs.Bytes.{u16, begins, shared}
use Rattle.image.specs.Entry as defined
use Rattle.image.specs.Image.{Branch, nodes_of}
use Rattle.laws.specs.Encode.{bytes_of, bytes_of_all}
use Rattle.laws.specs.PushDown.{touches}
use Rattle.laws.specs.Upkeep.Size.{put-size, drop-size, clear-size}
use Rattle.laws.specs.Reading.Relative.{branch_high}
use Rattle.node.specs.Lent.{message_is, entry_is}
use Rattle.node.specs.declared.entries.Message.{Message}
use Rattle.node.specs.declared.entries.Entry.{Entry}
use Rattle.node.specs.Search.Own.{branch}
use Rattle.push.specs.Laws.Arriving.{lowered_by, brought, brought_all}
use Rattle.push.specs.Laws.Leaves.{leaf_takes_one}
use Rattle.push.specs.Laws.Written.{has_room, all_have_room}
use Rattle.push.specs.Brings.{Silent, Arrives}
use Rattle.octets.specs.Beginnings.{shared-take}

-- WHAT THE CHILD LIFTS
lifted-is : (lo hi : List ℕ) (k : ℕ) → k ≡ length (shared lo hi) → take k lo ≡ shared lo hi
lifted-is lo hi k e = ap (λ n. take n lo) e ∙ shared-take lo hi

-- WHETHER A CLEAR TOUCHES A CHILD: l is what the child lifts
module _ (m : Message) (key : Bor (List ℕ)) (lo hi : List ℕ) (e : m ≡ Message.Clear key) (k : ℕ) (l : List ℕ) (f : k ≡ length (shared lo hi)) (g : l ≡ take k lo)
    (b : Bool) (q : b ≡ begins key.now l) where
  clear-is : touches (message_is m) lo hi ≡ b || begins l key.now
  unfolding touches
  clear-is = rw (e, g, lifted-is lo hi k f) (ap (λ x. x || begins (shared lo hi) key.now) (sym (q ∙ ap (begins key.now) (g ∙ lifted-is lo hi k f))))

  pub clear_first : b ≡ true → b ≡ touches (message_is m) lo hi
  clear_first h = h ∙ sym (clear-is ∙ ap (λ x. x || begins l key.now) h)

  pub clear_second : b ≡ false → (d : Bool) → d ≡ begins l key.now → d ≡ touches (message_is m) lo hi
  clear_second h d p = p ∙ sym (clear-is ∙ ap (λ x. x || begins l key.now) h)

-- WHAT AN ENTRY BRINGS
pub silent-other : (e : Entry) (lo hi : List ℕ) → ((m : Message) → e ≡ Entry.Message m → ⊥) → Silent (entry_is e) lo hi
unfolding brought leaf_takes_one
silent-other (Entry.Pair k v) lo hi h = record { bytes = refl; takes = λ i s. refl }
silent-other (Entry.Child i k) lo hi h = record { bytes = refl; takes = λ i s. refl }
silent-other (Entry.Message m) lo hi h = absurd (h m refl)

module _ (e : Entry) (m : Message) (q : e ≡ Entry.Message m) (lo hi : List ℕ) where
  pub silent-untouched : false ≡ touches (message_is m) lo hi → Silent (entry_is e) lo hi
  unfolding brought leaf_takes_one
  silent-untouched t = rw q record { bytes = rw (sym t) refl; takes = λ i s. rw (sym t) refl }

  pub arrives : true ≡ touches (message_is m) lo hi → (n : Message) (k : ℕ) → k ≡ length (shared lo hi) → message_is n ≡ lowered_by k (message_is m) → Arrives (entry_is e) lo hi n
  unfolding brought leaf_takes_one
  arrives t n k f g = rw q record { bytes = rw (sym t, g, f) refl; takes = λ i s. rw (sym t, g, f) refl }

-- WHAT IS BROUGHT IS NO LONGER THAN THE ENTRY
lowered-size : (k : ℕ) (m : defined.Message) → length (bytes_of (defined.message (lowered_by k m))) ≤ length (bytes_of (defined.message m))
unfolding lowered_by
lowered-size k (defined.puts s v) = omega (arith, put-size (drop k s) v, put-size s v, length-drop k s)
lowered-size k (defined.drops s) = omega (arith, drop-size (drop k s), drop-size s, length-drop k s)
lowered-size k (defined.clears s) = omega (arith, clear-size (drop k s), clear-size s, length-drop k s)

brought-size : (e : defined.Entry) (lo hi : List ℕ) → length (brought e lo hi) ≤ length (bytes_of e)
unfolding brought
brought-size (defined.pair k v) lo hi = omega arith
brought-size (defined.child i k) lo hi = omega arith
brought-size (defined.message m) lo hi = go (touches m lo hi)
  where
    go : (b : Bool) → length (cond b (bytes_of (defined.message (lowered_by (length (shared lo hi)) m))) []) ≤ length (bytes_of (defined.message m))
    go true = lowered-size (length (shared lo hi)) m
    go false = omega arith

module _ (es ts : List defined.Entry) (e : defined.Entry) (q : es ≡ e ∷ ts) (h : length (bytes_of_all es) ≤ 1024) where
  first-and-rest : length (bytes_of e) + length (bytes_of_all ts) ≤ 1024
  unfolding bytes_of_all
  first-and-rest = let a = ap (λ l. length (bytes_of_all l)) q in let b = length-append (bytes_of e) (bytes_of_all ts) in omega arith

  pub brought-short : (lo hi : List ℕ) → length (brought e lo hi) ≤ 1024
  brought-short lo hi = let a = first-and-rest in let b = brought-size e lo hi in omega arith

  pub rest-short : length (bytes_of_all ts) ≤ 1024
  rest-short = let a = first-and-rest in omega arith

-- THE SUM OF WHAT ALL ENTRIES BRING
module _ (lo hi : List ℕ) (es : List defined.Entry) (sum : ℕ) (answer : Bool) (inv : leb (sum + length (brought_all es lo hi)) 1016 ≡ answer) where
  pub fit-end : es ≡ [] → leb sum 1016 ≡ answer
  unfolding brought_all
  fit-end e =
      let z : sum + length (brought_all es lo hi) ≡ sum = ap (λ l. sum + length (brought_all l lo hi)) e ∙ omega arith in
      ap (λ n. leb n 1016) (sym z) ∙ inv

  pub fit-step : (e : defined.Entry) (ts : List defined.Entry) (r : ℕ) → es ≡ e ∷ ts → r ≡ length (brought e lo hi) → leb (sum + r + length (brought_all ts lo hi)) 1016 ≡ answer
  unfolding brought_all
  fit-step e ts r q g =
      let a : length (brought_all es lo hi) ≡ length (brought e lo hi) + length (brought_all ts lo hi)
      = ap (λ l. length (brought_all l lo hi)) q ∙ length-append (brought e lo hi) (brought_all ts lo hi) in
      let z : sum + r + length (brought_all ts lo hi) ≡ sum + length (brought_all es lo hi) = omega arith in
      ap (λ n. leb n 1016) z ∙ inv

  pub fit-skip : (e : defined.Entry) (ts : List defined.Entry) → es ≡ e ∷ ts → brought e lo hi ≡ [] → leb (sum + length (brought_all ts lo hi)) 1016 ≡ answer
  fit-skip e ts q g = let z : sum + 0 ≡ sum = omega arith in ap (λ n. leb (n + length (brought_all ts lo hi)) 1016) (sym z) ∙ fit-step e ts 0 q (sym (ap length g))

-- A CHILD, AND ALL CHILDREN
pub room-no : (es : List defined.Entry) (i : ℕ) (lo hi s : List ℕ) → nodes_of (length s) ≤ i → false ≡ has_room es i lo hi s
unfolding has_room
room-no es i lo hi s h = rw (le-ltb i (nodes_of (length s)) h)

pub room-is : (es : List defined.Entry) (i : ℕ) (lo hi s : List ℕ) (used : ℕ) (b : Bool) → i < nodes_of (length s) → used ≡ u16 s (i * 1024)
    → b ≡ leb (used + length (brought_all es lo hi)) 1016 → b ≡ has_room es i lo hi s
unfolding has_room
room-is es i lo hi s used b h u e = e ∙ ap (λ n. leb (n + length (brought_all es lo hi)) 1016) u ∙ sym (ap (λ z. z && leb (u16 s (i * 1024) + length (brought_all es lo hi)) 1016) (lt-ltb i (nodes_of (length s)) h))

-- ks are left, and hi is the high pivot of the last
module _ (es : List defined.Entry) (hi s : List ℕ) (answer : Bool) (ks : List Branch) (inv : all_have_room es ks hi s ≡ answer) where
  pub rooms-none : ks ≡ [] → true ≡ answer
  unfolding all_have_room
  rooms-none e = ap (λ l. all_have_room es l hi s) (sym e) ∙ inv

  module _ (i : ℕ) (lo h : List ℕ) (us : List Branch) (e : ks ≡ branch i lo ∷ us) (g : h ≡ branch_high hi us) where
    rooms-are : has_room es i lo h s && all_have_room es us hi s ≡ answer
    unfolding all_have_room
    rooms-are = ap (λ x. has_room es i lo x s && all_have_room es us hi s) g ∙ ap (λ l. all_have_room es l hi s) (sym e) ∙ inv

    pub rooms-no : false ≡ has_room es i lo h s → false ≡ answer
    rooms-no q = ap (λ x. x && all_have_room es us hi s) q ∙ rooms-are

    pub rooms-on : true ≡ has_room es i lo h s → all_have_room es us hi s ≡ answer
    rooms-on q = ap (λ x. x && all_have_room es us hi s) q ∙ rooms-are
