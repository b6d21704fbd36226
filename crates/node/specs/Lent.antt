-- What the iterator over a node's entries lends: each item as the entry that it stands for, and what is left to be read.
use Rattle.std.specs.Prelude.{ℕ, ◌+◌, ◌-◌, ◌<◌, ◌≤◌, ◌≡◌, refl, List, [], ◌∷◌, length, take, drop}
use Rattle.std.specs.Prelude as found
use Rattle.std.specs.Borrow.{Bor}
use Rattle.image.specs.Prelude.{sym, ap, ap₂, ◌∙◌, none, some, Option, arith, length-drop, get_or-take, le-leb, lt-leb}
use Rattle.image.specs.Bytes.{u16}
use Rattle.image.specs.Entry as defined
use Rattle.image.specs.Meaning.{Said, nothing, says}
use Rattle.node.specs.Entries.{list_of, read_some, cons_then, read-cons, list-cons}
use Rattle.node.specs.declared.entries.Message.{Message}
use Rattle.node.specs.declared.entries.Entry.{Entry}
use Rattle.node.specs.declared.entries.Entries.{Entries}

abbrev pub message_is : Message → defined.Message
message_is (Message.Put k v) = defined.puts k.now v.now
message_is (Message.Drop k) = defined.drops k.now
message_is (Message.Clear k) = defined.clears k.now

abbrev pub entry_is : Entry → defined.Entry
entry_is (Entry.Pair k v) = defined.pair k.now v.now
entry_is (Entry.Child i k) = defined.child i k.now
entry_is (Entry.Message m) = defined.message (message_is m)

-- a value found, and what a message says of a rest
abbrev pub value_is : found.Option (Bor (List ℕ)) → Option (List ℕ)
value_is found.None = none
value_is (found.Some v) = some v.now

abbrev pub said_is : found.Option (found.Option (Bor (List ℕ))) → Said
said_is found.None = nothing
said_is (found.Some v) = says (value_is v)

-- the path that an entry may hold a value for: of a pair and of a put
unfoldable pub path_of : defined.Entry → List (List ℕ)
path_of (defined.pair k v) = k ∷ []
path_of (defined.child i k) = []
path_of (defined.message (defined.puts k v)) = k ∷ []
path_of (defined.message (defined.drops k)) = []
path_of (defined.message (defined.clears k)) = []

abbrev pub path_is : found.Option (Bor (List ℕ)) → List (List ℕ)
path_is found.None = []
path_is (found.Some k) = k.now ∷ []

abbrev pub left_of : Entries → List defined.Entry
left_of it = list_of it.rest.now

-- the rest of an entry that is a suffix and a value
abbrev pub Unkeyed : List ℕ → Type 0
Unkeyed r = (make : List ℕ → List ℕ → defined.Entry) → defined.keyed make r ≡ none

abbrev pub Keyed : List ℕ → List ℕ → List ℕ → Type 0
Keyed r k v = (make : List ℕ → List ℕ → defined.Entry) → defined.keyed make r ≡ some (make k v)

abbrev pub NotOf : ℕ → List ℕ → Type 0
NotOf kind r = defined.entry_of kind r ≡ none

abbrev pub IsOf : ℕ → List ℕ → Entry → Type 0
IsOf kind r e = defined.entry_of kind r ≡ some (entry_is e)

-- bytes that no entry begins; an entry and the bytes behind it
pub record Unread (s : List ℕ) : Type 0 where
  pub first : 0 < length s → defined.entries_of s ≡ none
  pub lists : list_of s ≡ []

pub record Leads (s : List ℕ) (e : Entry) (r : List ℕ) : Type 0 where
  pub first : defined.entries_of s ≡ defined.entry_then (some (entry_is e)) (defined.entries_of r)
  pub lists : list_of s ≡ entry_is e ∷ list_of r
  pub later : drop (u16 s 0) (drop 4 s) ≡ r
  pub shorter : length r + 4 ≤ length s

-- a number in front of bytes, read from the part that holds it
pub front-u16 : (s : List ℕ) (n k : ℕ) → k + 1 < n → u16 (take n s) k ≡ u16 s k
unfolding u16
front-u16 s n k h =
    let x = get_or-take n s k 0 (omega arith) in
    let y = get_or-take n s (k + 1) 0 h in
    omega arith

pub keyed-short : (r : List ℕ) → length r < 2 → Unkeyed r
unfolding defined.keyed
keyed-short r h make = rw (lt-leb 2 (length r) h)

pub child-short : (r : List ℕ) → length r < 2 → NotOf 16 r
unfolding defined.entry_of defined.pointer
child-short r h = rw (lt-leb 2 (length r) h)

-- The rest r of an entry, parted behind its first number n.
module _ (r front body : List ℕ) (two : 2 ≤ length r) (f : front ≡ take 2 r) (b : body ≡ drop 2 r) (n : ℕ) (e : n ≡ u16 front 0) where
  count-is : n ≡ u16 r 0
  count-is = e ∙ ap (λ x. u16 x 0) f ∙ front-u16 r 2 0 (omega arith)

  body-length : length body + 2 ≡ length r
  body-length = let d = length-drop 2 r in let l = ap length b in omega arith

  pub keyed-over : length body < n → Unkeyed r
  unfolding defined.keyed
  keyed-over h make = let l = body-length in let c = count-is in rw (le-leb 2 (length r) two, lt-leb (u16 r 0) (length r - 2) (omega arith))

  pub keyed-parts : n ≤ length body → (k v : List ℕ) → k ≡ take n body → v ≡ drop n body → Keyed r k v
  unfolding defined.keyed
  keyed-parts h k v p q make =
      let l = body-length in
      let c = count-is in
      rw (le-leb 2 (length r) two, le-leb (u16 r 0) (length r - 2) (omega arith))
      (ap₂ (λ x y. some (make x y)) (ap₂ (λ i y. take i y) (sym c) (sym b) ∙ sym p) (ap₂ (λ i y. drop i y) (sym c) (sym b) ∙ sym q))

  pub child-over : 65 < length body → NotOf 16 r
  unfolding defined.entry_of defined.pointer
  child-over h = let l = body-length in rw (le-leb 2 (length r) two, lt-leb (length r - 2) 65 (omega arith))

  pub child-parts : length body ≤ 65 → defined.entry_of 16 r ≡ some (defined.child n body)
  unfolding defined.entry_of defined.pointer
  child-parts h =
      let l = body-length in
      rw (le-leb 2 (length r) two, le-leb (length r - 2) 65 (omega arith)) (ap₂ (λ x y. some (defined.child x y)) (sym count-is) (sym b))

-- the kinds
module _ (r : List ℕ) where
  pub pair-none : Unkeyed r → NotOf 1 r
  unfolding defined.entry_of
  pair-none h = h defined.pair

  pub pair-some : (k v : List ℕ) → Keyed r k v → defined.entry_of 1 r ≡ some (defined.pair k v)
  unfolding defined.entry_of
  pair-some k v h = h defined.pair

  pub put-none : Unkeyed r → NotOf 32 r
  unfolding defined.entry_of
  put-none h = h (λ s v. defined.message (defined.puts s v))

  pub put-some : (k v : List ℕ) → Keyed r k v → defined.entry_of 32 r ≡ some (defined.message (defined.puts k v))
  unfolding defined.entry_of
  put-some k v h = h (λ s v. defined.message (defined.puts s v))

-- the entry that bytes begin with, by its parts
then-none : (o : Option defined.Entry) (y : Option (List defined.Entry)) → o ≡ none → defined.entry_then o y ≡ none
unfolding defined.entry_then
then-none o y e = rw e

cons-none : (o : Option defined.Entry) (y : List defined.Entry) → o ≡ none → cons_then o y ≡ []
unfolding cons_then
cons-none o y e = rw e

cons-some : (o : Option defined.Entry) (y : List defined.Entry) (e : defined.Entry) → o ≡ some e → cons_then o y ≡ e ∷ y
unfolding cons_then
cons-some o y e q = rw q

short-lists : (s : List ℕ) → length s < 4 → list_of s ≡ []
unfolding list_of read_some
short-lists [] h = refl
short-lists (b ∷ s) h = list-cons (b ∷ s) (omega arith) ∙ rw (lt-leb 4 (length (b ∷ s)) h)

pub unread-short : (s : List ℕ) → length s < 4 → Unread s
unread-short s h = record { first = λ p. read-cons s p ∙ rw (lt-leb 4 (length s) h); lists = short-lists s h }

-- Bytes parted behind the two numbers n and k in front.
module _ (s front rest : List ℕ) (four : 4 ≤ length s) (f : front ≡ take 4 s) (b : rest ≡ drop 4 s) (n k : ℕ) (e : n ≡ u16 front 0) (g : k ≡ u16 front 2) where
  size-is : n ≡ u16 s 0
  size-is = e ∙ ap (λ x. u16 x 0) f ∙ front-u16 s 4 0 (omega arith)

  kind-is : k ≡ u16 s 2
  kind-is = g ∙ ap (λ x. u16 x 2) f ∙ front-u16 s 4 2 (omega arith)

  rest-length : length rest + 4 ≡ length s
  rest-length = let d = length-drop 4 s in let l = ap length b in omega arith

  pub unread-over : length rest < n → Unread s
  unread-over h =
      let l = rest-length in
      let c = size-is in
      record {
        first = λ p. read-cons s p ∙ rw (le-leb 4 (length s) four, lt-leb (u16 s 0) (length s - 4) (omega arith));
        lists = list-cons s (omega arith) ∙ rw (le-leb 4 (length s) four, lt-leb (u16 s 0) (length s - 4) (omega arith));
      }

  module _ (h : n ≤ length rest) (body behind : List ℕ) (p : body ≡ take n rest) (q : behind ≡ drop n rest) where
    entry-here : defined.entry_of (u16 s 2) (take (u16 s 0) (drop 4 s)) ≡ defined.entry_of k body
    entry-here = ap₂ (λ x y. defined.entry_of x y) (sym kind-is) (ap₂ (λ i y. take i y) (sym size-is) (sym b) ∙ sym p)

    behind-here : drop (u16 s 0) (drop 4 s) ≡ behind
    behind-here = ap₂ (λ i y. drop i y) (sym size-is) (sym b) ∙ sym q

    read-here : defined.entries_of s ≡ defined.entry_then (defined.entry_of k body) (defined.entries_of behind)
    read-here =
        let l = rest-length in
        let c = size-is in
        read-cons s (omega arith) ∙ rw (le-leb 4 (length s) four, le-leb (u16 s 0) (length s - 4) (omega arith))
        (ap₂ (λ x y. defined.entry_then x (defined.entries_of y)) entry-here behind-here)

    list-here : list_of s ≡ cons_then (defined.entry_of k body) (list_of behind)
    list-here =
        let l = rest-length in
        let c = size-is in
        list-cons s (omega arith) ∙ rw (le-leb 4 (length s) four, le-leb (u16 s 0) (length s - 4) (omega arith))
        (ap₂ (λ x y. cons_then x (list_of y)) entry-here behind-here)

    pub unread-kind : NotOf k body → Unread s
    unread-kind o = record { first = λ z. read-here ∙ then-none _ _ o; lists = list-here ∙ cons-none _ _ o }

    pub leads : (x : Entry) → IsOf k body x → Leads s x behind
    leads x o =
        let l = rest-length in
        let m = length-drop n rest in
        let z = ap length q in
        record { first = read-here ∙ ap (λ y. defined.entry_then y (defined.entries_of behind)) o; lists = list-here ∙ cons-some _ _ _ o; later = behind-here; shorter = omega arith }

-- a child's number is one of two bytes
abbrev pub Small : defined.Entry → Type 0
Small (defined.pair k v) = Unit
Small (defined.child i k) = i < 65536
Small (defined.message m) = Unit
