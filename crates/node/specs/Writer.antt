-- Step lemmas of the writer: writes one after the other are one entry, and a page with its first bytes is one put into the store.
-- Relies on octets' Put; the bytes of an entry are laws' Encode.
use Rattle.std.specs.Prelude.{ℕ, suc, ◌+◌, ◌*◌, ◌<◌, ◌≤◌, ◌≡◌, refl, List, ◌++◌, length, take, drop}
use Rattle.image.specs.Prelude.{sym, ap, ap₂, subst, ◌∙◌, append_assoc, arith, length-append, length-take-le, take-add, take_at, drop_at, take-append-le, drop-append-le, drop-append-add}
use Rattle.image.specs.Bytes.{u16_bytes}
use Rattle.image.specs.Entry.{pair, child, message}
use Rattle.octets.specs.Put.{put, put-put, put-size}
use Rattle.std.specs.Borrow.{Bor}
use Rattle.laws.specs.Encode.{rest_of, kind_of, bytes_of, keyed_entry, short_entry, head_bytes, pair_size, child-size, pair-entry, put-entry, drop-entry, clear-entry, keyed-length, short-length}
use Rattle.node.specs.Lent.{entry_is, message_is, Small}
use Rattle.node.specs.declared.entries.Message.{Message}
use Rattle.node.specs.declared.entries.Entry.{Entry}

-- THE FIRST BYTES OF AN ENTRY, AND TWO PARTS BEHIND THEM
pub head-put : (p p₁ p₂ p₃ : List ℕ) (at rest kind first : ℕ) → at + 6 ≤ length p → p₁ ≡ put p at (u16_bytes rest) → p₂ ≡ put p₁ (at + 2) (u16_bytes kind) → p₃ ≡ put p₂ (at + 4) (u16_bytes first)
    → p₃ ≡ put p at (head_bytes rest kind first)
unfolding head_bytes
head-put p p₁ p₂ p₃ at rest kind first h a b c =
    let A : List ℕ = u16_bytes rest in
    let B : List ℕ = A ++ u16_bytes kind in
    c ∙ ap (λ x. put x (at + 4) (u16_bytes first)) (b ∙ ap (λ x. put x (at + 2) (u16_bytes kind)) a ∙ put-put p at A (u16_bytes kind) (omega arith))
    ∙ put-put p at B (u16_bytes first) (omega arith)

head-length : (rest kind first : ℕ) → length (head_bytes rest kind first) ≡ 6
unfolding head_bytes
head-length rest kind first = refl

two-parts : (p p₁ p₂ p₃ H more key : List ℕ) (at : ℕ) → length H ≡ 6 → at + (6 + (length more + length key)) ≤ length p → p₁ ≡ put p at H → p₂ ≡ put p₁ (at + 6) more
    → p₃ ≡ put p₂ (at + 6 + length more) key → p₃ ≡ put p at (H ++ (more ++ key))
two-parts p p₁ p₂ p₃ H more key at six h a b c =
    let n = length-append H more in
    let x : at + 6 ≡ at + length H = omega arith in
    let y : at + 6 + length more ≡ at + length (H ++ more) = omega arith in
    let t : p₂ ≡ put p at (H ++ more) = b ∙ ap₂ (λ q i. put q i more) a x ∙ put-put p at H more (omega arith) in
    c ∙ ap₂ (λ q i. put q i key) t y ∙ put-put p at (H ++ more) key (omega arith) ∙ ap (put p at) (append_assoc H more key)

-- ONE ENTRY
pub keyed-put : (p p₁ p₂ p₃ : List ℕ) (at kind : ℕ) (key value : List ℕ) → at + (6 + length key + length value) ≤ length p
    → p₁ ≡ put p at (head_bytes (2 + length key + length value) kind (length key)) → p₂ ≡ put p₁ (at + 6) key → p₃ ≡ put p₂ (at + 6 + length key) value
    → p₃ ≡ put p at (keyed_entry kind key value)
unfolding keyed_entry head_bytes
keyed-put p p₁ p₂ p₃ at kind key value h a b c =
    two-parts p p₁ p₂ p₃ (head_bytes (2 + length key + length value) kind (length key)) key value at refl (omega arith) a b c

pub short-put : (p p₁ p₂ p₃ : List ℕ) (at kind : ℕ) (key : List ℕ) → at + (4 + length key) ≤ length p
    → p₁ ≡ put p at (u16_bytes (length key)) → p₂ ≡ put p₁ (at + 2) (u16_bytes kind) → p₃ ≡ put p₂ (at + 4) key → p₃ ≡ put p at (short_entry kind key)
unfolding short_entry
short-put p p₁ p₂ p₃ at kind key h a b c =
    c ∙ ap (λ x. put x (at + 4) key) (b ∙ ap (λ x. put x (at + 2) (u16_bytes kind)) a ∙ put-put p at (u16_bytes (length key)) (u16_bytes kind) (omega arith))
    ∙ put-put p at (u16_bytes (length key) ++ u16_bytes kind) key (omega arith)

pub child-put : (p p₁ p₂ : List ℕ) (at num : ℕ) (s : List ℕ) → at + (6 + length s) ≤ length p
    → p₁ ≡ put p at (head_bytes (2 + length s) 16 num) → p₂ ≡ put p₁ (at + 6) s → p₂ ≡ put p at (bytes_of (child num s))
unfolding bytes_of rest_of kind_of head_bytes
child-put p p₁ p₂ at num s h a b =
    let z : 2 + length s ≡ suc (suc (length s)) = omega arith in
    b ∙ ap (λ x. put x (at + 6) s) a ∙ put-put p at (head_bytes (2 + length s) 16 num) s (omega arith)
    ∙ ap (λ x. put p at (u16_bytes x ++ (u16_bytes 16 ++ (u16_bytes num ++ s)))) z

-- ONE ENTRY WITH MORE BYTES IN FRONT OF ITS SUFFIX
pub pair-length : (more key v : List ℕ) → length (bytes_of (pair (more ++ key) v)) ≡ 6 + (length more + length key) + length v
pair-length more key v = pair_size (more ++ key) v ∙ ap (λ z. 6 + z + length v) (length-append more key)

pub child-length : (i : ℕ) (more key : List ℕ) → length (bytes_of (child i (more ++ key))) ≡ 6 + (length more + length key)
child-length i more key = child-size i (more ++ key) ∙ ap (λ z. 6 + z) (length-append more key)

pair-bytes : (more key v : List ℕ) → head_bytes (2 + (length more + length key) + length v) 1 (length more + length key) ++ ((more ++ key) ++ v) ≡ bytes_of (pair (more ++ key) v)
unfolding head_bytes bytes_of rest_of kind_of
pair-bytes more key v =
    let n = length-append more key in
    let a = length-append (more ++ key) v in
    let z : 2 + (length more + length key) + length v ≡ length (u16_bytes (length (more ++ key)) ++ ((more ++ key) ++ v)) = omega arith in
    let y : length more + length key ≡ length (more ++ key) = omega arith in
    ap₂ (λ r t. u16_bytes r ++ (u16_bytes 1 ++ (u16_bytes t ++ ((more ++ key) ++ v)))) z y

child-bytes : (i : ℕ) (more key : List ℕ) → head_bytes (2 + (length more + length key)) 16 i ++ (more ++ key) ≡ bytes_of (child i (more ++ key))
unfolding head_bytes bytes_of rest_of kind_of
child-bytes i more key =
    let n = length-append more key in
    let z : 2 + (length more + length key) ≡ length (u16_bytes i ++ (more ++ key)) = omega arith in
    ap (λ r. u16_bytes r ++ (u16_bytes 16 ++ (u16_bytes i ++ (more ++ key)))) z

pub longer-pair-put : (p p₁ p₂ p₃ p₄ more key v : List ℕ) (at : ℕ) → at + length (bytes_of (pair (more ++ key) v)) ≤ length p
    → p₁ ≡ put p at (head_bytes (2 + (length more + length key) + length v) 1 (length more + length key)) → p₂ ≡ put p₁ (at + 6) more
    → p₃ ≡ put p₂ (at + 6 + length more) key → p₄ ≡ put p₃ (at + 6 + (length more + length key)) v → p₄ ≡ put p at (bytes_of (pair (more ++ key) v))
longer-pair-put p p₁ p₂ p₃ p₄ more key v at h a b c d =
    let l = pair-length more key v in
    let H : List ℕ = head_bytes (2 + (length more + length key) + length v) 1 (length more + length key) in
    let six : length H ≡ 6 = head-length (2 + (length more + length key) + length v) 1 (length more + length key) in
    let t : p₃ ≡ put p at (H ++ (more ++ key)) = two-parts p p₁ p₂ p₃ H more key at six (omega arith) a b c in
    let n = length-append H (more ++ key) in
    let m = length-append more key in
    let y : at + 6 + (length more + length key) ≡ at + length (H ++ (more ++ key)) = omega arith in
    d ∙ ap₂ (λ q i. put q i v) t y ∙ put-put p at (H ++ (more ++ key)) v (omega arith)
    ∙ ap (put p at) (append_assoc H (more ++ key) v ∙ pair-bytes more key v)

pub longer-child-put : (p p₁ p₂ p₃ more key : List ℕ) (at i : ℕ) → at + length (bytes_of (child i (more ++ key))) ≤ length p
    → p₁ ≡ put p at (head_bytes (2 + (length more + length key)) 16 i) → p₂ ≡ put p₁ (at + 6) more
    → p₃ ≡ put p₂ (at + 6 + length more) key → p₃ ≡ put p at (bytes_of (child i (more ++ key)))
longer-child-put p p₁ p₂ p₃ more key at i h a b c =
    let l = child-length i more key in
    two-parts p p₁ p₂ p₃ (head_bytes (2 + (length more + length key)) 16 i) more key at (head-length (2 + (length more + length key)) 16 i) (omega arith) a b c
    ∙ ap (put p at) (child-bytes i more key)

-- A PAGE WITH ITS FIRST BYTES
-- the first bytes put into a page, and then the page into a store
pub page-put : (page p₁ p₂ p₃ store store' : List ℕ) (num kind level size : ℕ) → p₁ ≡ put page 0 (u16_bytes size) → p₂ ≡ put p₁ 2 (u16_bytes kind) → p₃ ≡ put p₂ 4 (u16_bytes level)
    → store' ≡ put store (num * 1024) p₃ → store' ≡ put store (num * 1024) (put (put (put page 0 (u16_bytes size)) 2 (u16_bytes kind)) 4 (u16_bytes level))
page-put page p₁ p₂ p₃ store store' num kind level size a b c d =
    d ∙ ap (put store (num * 1024)) (c ∙ ap (λ x. put x 4 (u16_bytes level)) (b ∙ ap (λ x. put x 2 (u16_bytes kind)) a))

-- what is put within a page that was put is put into the page
put-within : (store page bs : List ℕ) (at i : ℕ) → at + length page ≤ length store → i + length bs ≤ length page → put (put store at page) (at + i) bs ≡ put store at (put page i bs)
unfolding put
put-within store page bs at i room within =
    let s = put-size page i bs within in
    let z : at + length page ≡ at + length (put page i bs) = omega arith in
    ap₂ (λ x y. x ++ (bs ++ y)) front back
    ∙ append_assoc before (take i page) (bs ++ (drop (i + length bs) page ++ behind))
    ∙ ap (λ x. before ++ x) whole
    ∙ ap (λ n. before ++ (put page i bs ++ drop n store)) z
  where
    before : List ℕ
    before = take at store

    behind : List ℕ
    behind = drop (at + length page) store

    before-length : length before ≡ at
    before-length = length-take-le at store (omega arith)

    front : take (at + i) (before ++ (page ++ behind)) ≡ before ++ take i page
    front = take-add at i (before ++ (page ++ behind))
        ∙ ap₂ (λ x y. x ++ take i y) (take_at before (page ++ behind) at before-length) (drop_at before (page ++ behind) at before-length)
        ∙ ap (λ x. before ++ x) (take-append-le i page behind (omega arith))

    back : drop (at + i + length bs) (before ++ (page ++ behind)) ≡ drop (i + length bs) page ++ behind
    back =
        let l = before-length in
        let z : at + i + length bs ≡ length before + (i + length bs) = omega arith in
        ap (λ n. drop n (before ++ (page ++ behind))) z
        ∙ drop-append-add before (page ++ behind) (i + length bs)
        ∙ drop-append-le (i + length bs) page behind within

    whole : take i page ++ (bs ++ (drop (i + length bs) page ++ behind)) ≡ put page i bs ++ behind
    whole = ap (λ x. take i page ++ x) (sym (append_assoc bs (drop (i + length bs) page) behind)) ∙ sym (append_assoc (take i page) (bs ++ drop (i + length bs) page) behind)

-- a page put into a store, and then its first bytes
pub first-bytes-put : (store s₁ s₂ s₃ store' page : List ℕ) (num kind level size : ℕ) → num * 1024 + 1024 ≤ length store → length page ≡ 1024
    → s₁ ≡ put store (num * 1024) page → s₂ ≡ put s₁ (num * 1024) (u16_bytes size) → s₃ ≡ put s₂ (num * 1024 + 2) (u16_bytes kind)
    → store' ≡ put s₃ (num * 1024 + 4) (u16_bytes level) → store' ≡ put store (num * 1024) (put (put (put page 0 (u16_bytes size)) 2 (u16_bytes kind)) 4 (u16_bytes level))
first-bytes-put store s₁ s₂ s₃ store' page num kind level size h l a b c d =
    let at : ℕ = num * 1024 in
    let P : List ℕ = put page 0 (u16_bytes size) in
    let Q : List ℕ = put P 2 (u16_bytes kind) in
    let p = put-size page 0 (u16_bytes size) (omega arith) in
    let q = put-size P 2 (u16_bytes kind) (omega arith) in
    let z : at ≡ at + 0 = omega arith in
    d ∙ ap (λ x. put x (at + 4) (u16_bytes level))
    (c ∙ ap (λ x. put x (at + 2) (u16_bytes kind)) (b ∙ ap₂ (λ x n. put x n (u16_bytes size)) a z ∙ put-within store page (u16_bytes size) at 0 (omega arith) (omega arith))
    ∙ put-within store P (u16_bytes kind) at 2 (omega arith) (omega arith))
    ∙ put-within store Q (u16_bytes level) at 4 (omega arith) (omega arith)

-- AN ENTRY BY ITS KIND, and how many bytes it takes
pub putting : (m : Message) (k v : Bor (List ℕ)) → m ≡ Message.Put k v → bytes_of (message (message_is m)) ≡ keyed_entry 32 k.now v.now
putting m k v q = rw q (put-entry k.now v.now)

pub putting-takes : (m : Message) (k v : Bor (List ℕ)) → m ≡ Message.Put k v → length (bytes_of (message (message_is m))) ≡ 6 + length k.now + length v.now
putting-takes m k v q = ap length (putting m k v q) ∙ keyed-length 32 k.now v.now

pub dropping : (m : Message) (k : Bor (List ℕ)) → m ≡ Message.Drop k → bytes_of (message (message_is m)) ≡ short_entry 33 k.now
dropping m k q = rw q (drop-entry k.now)

pub dropping-takes : (m : Message) (k : Bor (List ℕ)) → m ≡ Message.Drop k → length (bytes_of (message (message_is m))) ≡ 4 + length k.now
dropping-takes m k q = ap length (dropping m k q) ∙ short-length 33 k.now

pub clearing : (m : Message) (k : Bor (List ℕ)) → m ≡ Message.Clear k → bytes_of (message (message_is m)) ≡ short_entry 34 k.now
clearing m k q = rw q (clear-entry k.now)

pub clearing-takes : (m : Message) (k : Bor (List ℕ)) → m ≡ Message.Clear k → length (bytes_of (message (message_is m))) ≡ 4 + length k.now
clearing-takes m k q = ap length (clearing m k q) ∙ short-length 34 k.now

pub pairing : (e : Entry) (k v : Bor (List ℕ)) → e ≡ Entry.Pair k v → bytes_of (entry_is e) ≡ keyed_entry 1 k.now v.now
pairing e k v q = rw q (pair-entry k.now v.now)

pub pairing-takes : (e : Entry) (k v : Bor (List ℕ)) → e ≡ Entry.Pair k v → length (bytes_of (entry_is e)) ≡ 6 + length k.now + length v.now
pairing-takes e k v q = ap length (pairing e k v q) ∙ keyed-length 1 k.now v.now

pub pointing : (e : Entry) (i : ℕ) (k : Bor (List ℕ)) → e ≡ Entry.Child i k → bytes_of (entry_is e) ≡ bytes_of (child i k.now)
pointing e i k q = rw q

pub pointing-takes : (e : Entry) (i : ℕ) (k : Bor (List ℕ)) → e ≡ Entry.Child i k → length (bytes_of (entry_is e)) ≡ 6 + length k.now
pointing-takes e i k q = ap length (pointing e i k q) ∙ child-size i k.now

pub pointing-small : (e : Entry) (i : ℕ) (k : Bor (List ℕ)) → e ≡ Entry.Child i k → Small (entry_is e) → i < 65536
pointing-small e i k q h = subst (λ x. Small (entry_is x)) q h

pub telling : (e : Entry) (m : Message) → e ≡ Entry.Message m → bytes_of (entry_is e) ≡ bytes_of (message (message_is m))
telling e m q = rw q
