-- The room of a leaf that takes messages, and that nothing but the child that takes them is written.
-- Relies on Only; TakesLaws and the code's loop over the children use `child-only` and `rooms-on`.
use Rattle.std.specs.Prelude.{ℕ, zero, suc, ◌+◌, ◌*◌, ◌-◌, ◌≤◌, ◌≡◌, refl, List, [], ◌∷◌, ◌++◌, Bool, true, false, ◌&&◌, not, cond, length, take, drop, ltb, leb, eqb}
use Rattle.image.specs.Prelude.{sym, ap, subst, ◌∙◌, Option, none, some, arith, length-append, length-drop, take-append-drop, leb-true, le-leb}
use Rattle.image.specs.Bytes.{u16, same, before, begins, shared}
use Rattle.image.specs.Entry.{Message, puts, drops, clears, Entry, pair, child, message, entry_of}
use Rattle.image.specs.Image.{Branch, node_bytes, nodes_of}
use Rattle.image.specs.Sound.{once}
use Rattle.octets.specs.Order.{and_left, before-asym}
use Rattle.laws.specs.Encode.{bytes_of, bytes_of_all, pair_size}
use Rattle.laws.specs.Rising.{both}
use Rattle.laws.specs.PushDown.{touches}
use Rattle.laws.specs.WriteNode.{write-length, write_same, write-other}
use Rattle.laws.specs.Page.{page, page-length, page-0}
use Rattle.laws.specs.Reading.Relative.{branch_high}
use Rattle.laws.specs.Upkeep.Size.{size_of, size-cons, size-nil, size-append, put-size}
use Rattle.laws.specs.Upkeep.Reading.{entry-good}
use Rattle.node.specs.Entries.{cons_then, read_some, list_of, listed}
use Rattle.lookup.specs.Look.{listing, count-is}
use Rattle.push.specs.Laws.Arriving.{lowered_by, brought, brought_all}
use Rattle.push.specs.Laws.Leaves.{kept, pairs_after, applied, leaf_takes_one, leaf_takes}
use Rattle.push.specs.Laws.Written.{body_of, child_takes, interior_takes, has_room, all_have_room, branch_numbers}
use Rattle.push.specs.Laws.Only.{Only, room-inside, room_fits, body-short, interior-only, rooms-stay, once-first, room-first, room-later}

-- THE SIZE OF WHAT STAYS
kept-size : (test : List ℕ → Bool) (es : List Entry) → size_of (kept test es) ≤ size_of es
unfolding kept
kept-size test [] = omega arith
kept-size test (pair k v ∷ es) = go (test k) refl (kept-size test es)
  where
    go : (b : Bool) → test k ≡ b → size_of (kept test es) ≤ size_of es → size_of (cond (test k) (pair k v ∷ kept test es) (kept test es)) ≤ size_of (pair k v ∷ es)
    go true e ih = rw e (omega (arith, size-cons (pair k v) (kept test es), size-cons (pair k v) es))
    go false e ih = rw e (omega (arith, size-cons (pair k v) es))
kept-size test (child i k ∷ es) = omega (arith, kept-size test es, size-cons (child i k) es)
kept-size test (message m ∷ es) = omega (arith, kept-size test es, size-cons (message m) es)

kept-both : (p : List ℕ) (es : List Entry) → size_of (kept (λ q. before q p) es) + size_of (kept (λ q. before p q) es) ≤ size_of es
unfolding kept
kept-both p [] = omega (arith, size-nil)
kept-both p (pair k v ∷ es) = go (before k p) refl (before p k) refl (kept-both p es)
  where
    go : (a : Bool) → before k p ≡ a → (b : Bool) → before p k ≡ b → size_of (kept (λ q. before q p) es) + size_of (kept (λ q. before p q) es) ≤ size_of es
        → size_of (cond (before k p) (pair k v ∷ kept (λ q. before q p) es) (kept (λ q. before q p) es))
        + size_of (cond (before p k) (pair k v ∷ kept (λ q. before p q) es) (kept (λ q. before p q) es)) ≤ size_of (pair k v ∷ es)
    go true e b f ih = rw (e, before-asym k p e) (omega (arith, size-cons (pair k v) (kept (λ q. before q p) es), size-cons (pair k v) es))
    go false e true f ih = rw (e, f) (omega (arith, size-cons (pair k v) (kept (λ q. before p q) es), size-cons (pair k v) es))
    go false e false f ih = rw (e, f) (omega (arith, size-cons (pair k v) es))
kept-both p (child i k ∷ es) = omega (arith, kept-both p es, size-cons (child i k) es)
kept-both p (message m ∷ es) = omega (arith, kept-both p es, size-cons (message m) es)

after-size : (m : Message) (es : List Entry) → size_of (pairs_after m es) ≤ size_of es + length (bytes_of (message m))
unfolding pairs_after
after-size (puts k v) es =
    omega (
      arith,
      kept-both k es,
      size-append (kept (λ q. before q k) es) (pair k v ∷ kept (λ q. before k q) es),
      size-cons (pair k v) (kept (λ q. before k q) es),
      pair_size k v,
      put-size k v,
    )
after-size (drops k) es = omega (arith, kept-size (λ q. not (same k q)) es)
after-size (clears k) es = omega (arith, kept-size (λ q. not (begins k q)) es)

-- what is listed is no longer than its bytes
then-size : (o : Option Entry) (ts : List Entry) (x r t : List ℕ) → length x ≡ 4 + length r + length t → size_of ts ≤ length t
    → ((e : Entry) → o ≡ some e → length (bytes_of e) ≡ 4 + length r) → size_of (cons_then o ts) ≤ length x
unfolding cons_then
then-size none ts x r t l h f = omega (arith, size-nil)
then-size (some e) ts x r t l h f = omega (arith, size-cons e ts, f e refl)

some_size : (k : ℕ) (x : List ℕ) → size_of (read_some k x) ≤ length x
unfolding read_some
some_size zero x = omega (arith, size-nil)
some_size (suc k) [] = omega (arith, size-nil)
some_size (suc k) (b ∷ x) = go (leb 4 (length (b ∷ x)) && leb (u16 (b ∷ x) 0) (length (b ∷ x) - 4)) refl (λ t. some_size k t)
  where
    go : (z : Bool) → leb 4 (length (b ∷ x)) && leb (u16 (b ∷ x) 0) (length (b ∷ x) - 4) ≡ z → ((t : List ℕ) → size_of (read_some k t) ≤ length t)
        → size_of (cond (leb 4 (length (b ∷ x)) && leb (u16 (b ∷ x) 0) (length (b ∷ x) - 4))
        (cons_then (entry_of (u16 (b ∷ x) 2) (take (u16 (b ∷ x) 0) (drop 4 (b ∷ x)))) (read_some k (drop (u16 (b ∷ x) 0) (drop 4 (b ∷ x))))) []) ≤ length (b ∷ x)
    go true e ih =
        let four : 4 ≤ length (b ∷ x) = leb-true 4 (length (b ∷ x)) (and_left _ _ e) in
        let r : List ℕ = take (u16 (b ∷ x) 0) (drop 4 (b ∷ x)) in
        let t : List ℕ = drop (u16 (b ∷ x) 0) (drop 4 (b ∷ x)) in
        let parts : length r + length t ≡ length (b ∷ x) - 4 = sym (length-append r t) ∙ ap length (take-append-drop (u16 (b ∷ x) 0) (drop 4 (b ∷ x))) ∙ length-drop 4 (b ∷ x) in
        rw e (then-size (entry_of (u16 (b ∷ x) 2) r) (read_some k t) (b ∷ x) r t (omega (arith, four, parts)) (ih t) (λ y w. (entry-good (u16 (b ∷ x) 2) r y w).0))
    go false e ih = rw e (omega (arith, size-nil))

pub listing-size : (s : List ℕ) (i : ℕ) → size_of (listing s i) ≤ u16 s (i * 1024)
unfolding listed list_of
listing-size s i = omega (arith, some_size (length (body_of s i)) (body_of s i), body-short s i)

-- ONE MESSAGE
module _ (m : Message) (i : ℕ) (s : List ℕ) (inside : i * 1024 + 1024 ≤ length s) (fits : u16 s (i * 1024) + length (bytes_of (message m)) ≤ 1016) where
  pub after-fits : length (bytes_of_all (pairs_after m (listing s i))) ≤ u16 s (i * 1024) + length (bytes_of (message m))
  unfolding size_of
  after-fits = omega (arith, after-size m (listing s i), listing-size s i)

  room : 1024 * i + 1024 ≤ length s
  room = omega (arith, inside)

  full : length (page 1 1 (bytes_of_all (pairs_after m (listing s i)))) ≡ 1024
  full = page-length 1 1 (bytes_of_all (pairs_after m (listing s i))) (omega (arith, after-fits))

  pub applied-only : Only s (applied m i s) i
  unfolding applied
  applied-only =
      record {
        size = write-length s i (page 1 1 (bytes_of_all (pairs_after m (listing s i)))) room full;
        other = λ j n. write-other s i (page 1 1 (bytes_of_all (pairs_after m (listing s i)))) room full j n;
      }

  pub applied-same : node_bytes (applied m i s) i ≡ page 1 1 (bytes_of_all (pairs_after m (listing s i)))
  unfolding applied
  applied-same = write_same s i (page 1 1 (bytes_of_all (pairs_after m (listing s i)))) room full

  pub applied-count : u16 (applied m i s) (i * 1024) ≤ u16 s (i * 1024) + length (bytes_of (message m))
  applied-count =
      let a : u16 (applied m i s) (i * 1024) ≡ length (bytes_of_all (pairs_after m (listing s i))) =
      sym (count-is (applied m i s) i (omega (arith, inside, applied-only.size))) ∙ ap (λ b. u16 b 0) applied-same ∙ page-0 1 1 (bytes_of_all (pairs_after m (listing s i))) in
      omega (arith, after-fits)

-- WHAT ONE ENTRY BRINGS, AND WHAT ALL BRING
only_same : (s : List ℕ) (i : ℕ) → Only s s i
only_same s i = record { size = refl; other = λ j n. refl }

only_then : (s s' s'' : List ℕ) (i : ℕ) → Only s s' i → Only s' s'' i → Only s s'' i
only_then s s' s'' i a b = record { size = b.size ∙ a.size; other = λ j n. b.other j n ∙ a.other j n }

pub record OneTaken (e : Entry) (es : List Entry) (i : ℕ) (lo hi s : List ℕ) : Type 0 where
  pub only : Only s (leaf_takes_one e i lo hi s) i
  pub left : has_room es i lo hi (leaf_takes_one e i lo hi s) ≡ true

room_of : (es : List Entry) (i : ℕ) (lo hi s s' : List ℕ) → ltb i (nodes_of (length s)) ≡ true → length s' ≡ length s → u16 s' (i * 1024) + length (brought_all es lo hi) ≤ 1016
    → has_room es i lo hi s' ≡ true
unfolding has_room
room_of es i lo hi s s' a l f = both (ap (λ n. ltb i (nodes_of n)) l ∙ a) (le-leb (u16 s' (i * 1024) + length (brought_all es lo hi)) 1016 f)

pub below-nodes : (es : List Entry) (i : ℕ) (lo hi s : List ℕ) → has_room es i lo hi s ≡ true → ltb i (nodes_of (length s)) ≡ true
unfolding has_room
below-nodes es i lo hi s e = and_left _ _ e

-- the room for one message, where it touches the leaf
pub one-fits : (m : Message) (es : List Entry) (i : ℕ) (lo hi s : List ℕ) → has_room (message m ∷ es) i lo hi s ≡ true → touches m lo hi ≡ true
    → u16 s (i * 1024) + length (bytes_of (message (lowered_by (length (shared lo hi)) m))) + length (brought_all es lo hi) ≤ 1016
unfolding brought_all brought
one-fits m es i lo hi s r t =
    let b : List ℕ = bytes_of (message (lowered_by (length (shared lo hi)) m)) in
    let a : length (brought_all (message m ∷ es) lo hi) ≡ length b + length (brought_all es lo hi) =
    ap (λ x. length (cond x b [] ++ brought_all es lo hi)) t ∙ length-append b (brought_all es lo hi) in
    omega (arith, room_fits (message m ∷ es) i lo hi s r)

pub one-taken : (e : Entry) (es : List Entry) (i : ℕ) (lo hi s : List ℕ) → has_room (e ∷ es) i lo hi s ≡ true → OneTaken e es i lo hi s
unfolding leaf_takes_one brought_all brought
one-taken (pair k v) es i lo hi s r =
    record { only = only_same s i; left = room_of es i lo hi s s (below-nodes (pair k v ∷ es) i lo hi s r) refl (room_fits (pair k v ∷ es) i lo hi s r) }
one-taken (child j k) es i lo hi s r =
    record { only = only_same s i; left = room_of es i lo hi s s (below-nodes (child j k ∷ es) i lo hi s r) refl (room_fits (child j k ∷ es) i lo hi s r) }
one-taken (message m) es i lo hi s r = go (touches m lo hi) refl
  where
    n : Message
    n = lowered_by (length (shared lo hi)) m

    go : (x : Bool) → touches m lo hi ≡ x → OneTaken (message m) es i lo hi s
    go true t =
        let inside = room-inside (message m ∷ es) i lo hi s r in
        let fits = one-fits m es i lo hi s r t in
        let o : Only s (applied n i s) i = applied-only n i s inside (omega arith) in
        let w : has_room es i lo hi (applied n i s) ≡ true =
        room_of es i lo hi s (applied n i s) (below-nodes (message m ∷ es) i lo hi s r) o.size (omega (arith, applied-count n i s inside (omega arith))) in
        let is : applied n i s ≡ leaf_takes_one (message m) i lo hi s = sym (ap (λ x. cond x (applied n i s) s) t) in
        record { only = subst (λ q. Only s q i) is o; left = subst (λ q. has_room es i lo hi q ≡ true) is w }
    go false t =
        let z : brought_all (message m ∷ es) lo hi ≡ brought_all es lo hi = ap (λ x. cond x (bytes_of (message n)) [] ++ brought_all es lo hi) t in
        let f : u16 s (i * 1024) + length (brought_all es lo hi) ≤ 1016 = omega (arith, room_fits (message m ∷ es) i lo hi s r, ap length z) in
        let w : has_room es i lo hi s ≡ true = room_of es i lo hi s s (below-nodes (message m ∷ es) i lo hi s r) refl f in
        let is : s ≡ leaf_takes_one (message m) i lo hi s = sym (ap (λ x. cond x (applied n i s) s) t) in
        record { only = subst (λ q. Only s q i) is (only_same s i); left = subst (λ q. has_room es i lo hi q ≡ true) is w }

pub leaf-only : (es : List Entry) (i : ℕ) (lo hi s : List ℕ) → has_room es i lo hi s ≡ true → Only s (leaf_takes es i lo hi s) i
unfolding leaf_takes
leaf-only [] i lo hi s r = only_same s i
leaf-only (e ∷ es) i lo hi s r =
    let w : OneTaken e es i lo hi s = one-taken e es i lo hi s r in
    only_then s (leaf_takes_one e i lo hi s) (leaf_takes es i lo hi (leaf_takes_one e i lo hi s)) i w.only (leaf-only es i lo hi (leaf_takes_one e i lo hi s) w.left)

-- A CHILD OF EITHER KIND
pub child-only : (es : List Entry) (i : ℕ) (lo hi s : List ℕ) → has_room es i lo hi s ≡ true → Only s (child_takes es i lo hi s) i
unfolding child_takes
child-only es i lo hi s r = go (eqb (u16 s (i * 1024 + 2)) 1)
  where
    go : (x : Bool) → Only s (cond x (leaf_takes es i lo hi s) (interior_takes es i lo hi s)) i
    go true = leaf-only es i lo hi s r
    go false = interior-only es i lo hi s r

-- the rest of the children after the first took its messages
pub rooms-on : (es : List Entry) (k : Branch) (ks : List Branch) (hi s : List ℕ) → once (branch_numbers (k ∷ ks)) ≡ true → all_have_room es (k ∷ ks) hi s ≡ true
    → all_have_room es ks hi (child_takes es k.number k.pivot (branch_high hi ks) s) ≡ true
rooms-on es k ks hi s o e =
    rooms-stay es ks hi s (child_takes es k.number k.pivot (branch_high hi ks) s) k.number
    (child-only es k.number k.pivot (branch_high hi ks) s (room-first es k ks hi s e)) (once-first k ks o).0 (room-later es k ks hi s e)
