-- The entries of a node as they are written, their length in bytes, and that they read back.
use Rattle.std.specs.Prelude.{ℕ, ◌+◌, ◌≤◌, ◌≡◌, refl, List, [], ◌∷◌, ◌++◌, true, ◌&&◌, length, drop, leb}
use Rattle.image.specs.Prelude.{sym, ap, ap₂, ◌∙◌, append_assoc, append-nil, some, arith, length-append, leb-true}
use Rattle.image.specs.Bytes.{shared}
use Rattle.image.specs.Entry.{Message, puts, drops, clears, Entry, pair, child, message}
use Rattle.image.specs.Table.{Row}
use Rattle.image.specs.Image.{Tree, unread, leaf, interior, Forest, end, tree, message_then, messages_of, no_branches, branch_then, inside_of}
use Rattle.image.specs.Upkeep.{no_message, pair_bytes, child_bytes, short_pivots, tree_bytes, tree_short, would_fit}
use Rattle.laws.specs.Encode.{rest_of, kind_of, bytes_of, bytes_of_all, allowed, all_allowed, pair_size, child-size}
use Rattle.octets.specs.Order.{and_left, and_right}
use Rattle.laws.specs.Rising.{both}
use Rattle.laws.specs.Page.{number_of, pair_entries, child_entries, branches_of, pairs-allowed}
use Rattle.laws.specs.Upkeep.Merge.{rewritten, repointed, followed, merged, Pair}

unfoldable pub message_entries : List Message → List Entry
message_entries [] = []
message_entries (m ∷ ms) = message m ∷ message_entries ms

-- the entries of a node
unfoldable pub entries_for : Tree → List Entry
entries_for (unread i) = []
entries_for (leaf i rs) = pair_entries rs
entries_for (interior i f ms) = child_entries f ++ message_entries ms

-- their bytes
unfoldable pub size_of : List Entry → ℕ
size_of es = length (bytes_of_all es)

unfoldable pub own_bytes : Tree → ℕ
own_bytes t = size_of (entries_for t)

pub bytes-append : (es fs : List Entry) → bytes_of_all (es ++ fs) ≡ bytes_of_all es ++ bytes_of_all fs
unfolding bytes_of_all
bytes-append [] fs = refl
bytes-append (e ∷ es) fs = ap (λ l. bytes_of e ++ l) (bytes-append es fs) ∙ sym (append_assoc (bytes_of e) (bytes_of_all es) (bytes_of_all fs))

pub size-append : (es fs : List Entry) → size_of (es ++ fs) ≡ size_of es + size_of fs
unfolding size_of
size-append es fs = ap length (bytes-append es fs) ∙ length-append (bytes_of_all es) (bytes_of_all fs)

pub put-size : (s v : List ℕ) → length (bytes_of (message (puts s v))) ≡ 6 + length s + length v
unfolding bytes_of rest_of kind_of
put-size s v = omega (arith, length-append s v)

pub drop-size : (s : List ℕ) → length (bytes_of (message (drops s))) ≡ 4 + length s
unfolding bytes_of rest_of kind_of
drop-size s = omega arith

pub clear-size : (s : List ℕ) → length (bytes_of (message (clears s))) ≡ 4 + length s
unfolding bytes_of rest_of kind_of
clear-size s = omega arith

pub size-cons : (e : Entry) (es : List Entry) → size_of (e ∷ es) ≡ length (bytes_of e) + size_of es
unfolding size_of bytes_of_all
size-cons e es = length-append (bytes_of e) (bytes_of_all es)

pub size-nil : size_of [] ≡ 0
unfolding size_of bytes_of_all
size-nil = refl

-- Upkeep's counts are the bytes of the entries rewritten
pub pairs-for-append : (t u : List Row) → pair_entries (t ++ u) ≡ pair_entries t ++ pair_entries u
unfolding pair_entries
pairs-for-append [] u = refl
pairs-for-append (r ∷ t) u = ap (λ l. pair r.key r.value ∷ l) (pairs-for-append t u)

pub branches-for-append : (f g : Forest) → child_entries (followed f g) ≡ child_entries f ++ child_entries g
unfolding child_entries followed
branches-for-append end g = refl
branches-for-append (tree s t f) g = ap (λ l. child (number_of t) s ∷ l) (branches-for-append f g)

pub pairs-size : (J L : List ℕ) (rs : List Row) → size_of (pair_entries (rewritten J L rs)) ≡ pair_bytes J L rs
unfolding pair_entries rewritten pair_bytes
pairs-size J L [] = size-nil
pairs-size J L (r ∷ rs) =
    size-cons (pair (drop (length J) (L ++ r.key)) r.value) (pair_entries (rewritten J L rs))
    ∙ ap₂ (λ a b. a + b) (pair_size (drop (length J) (L ++ r.key)) r.value) (pairs-size J L rs)

pub branches-size : (J L : List ℕ) (f : Forest) → size_of (child_entries (repointed J L f)) ≡ child_bytes J L f
unfolding child_entries repointed child_bytes
branches-size J L end = size-nil
branches-size J L (tree s t f) =
    size-cons (child (number_of t) (drop (length J) (L ++ s))) (child_entries (repointed J L f))
    ∙ ap₂ (λ a b. a + b) (child-size (number_of t) (drop (length J) (L ++ s))) (branches-size J L f)

-- The bytes of two nodes merged are what `would_fit` counts.
pub merged-size : {t u : Tree} → Pair t u → (lo mid hi : List ℕ)
    → own_bytes (merged t u lo mid hi) ≡ tree_bytes (shared lo hi) (shared lo mid) t + tree_bytes (shared lo hi) (shared mid hi) u
unfolding own_bytes merged tree_bytes entries_for message_entries
merged-size (Pair.leaves i j rs qs) lo mid hi =
    ap size_of (pairs-for-append (rewritten (shared lo hi) (shared lo mid) rs) (rewritten (shared lo hi) (shared mid hi) qs))
    ∙ size-append (pair_entries (rewritten (shared lo hi) (shared lo mid) rs)) (pair_entries (rewritten (shared lo hi) (shared mid hi) qs))
    ∙ ap₂ (λ a b. a + b) (pairs-size (shared lo hi) (shared lo mid) rs) (pairs-size (shared lo hi) (shared mid hi) qs)
merged-size (Pair.inners i j f g) lo mid hi =
    ap size_of (append-nil (child_entries (followed (repointed (shared lo hi) (shared lo mid) f) (repointed (shared lo hi) (shared mid hi) g)))
    ∙ branches-for-append (repointed (shared lo hi) (shared lo mid) f) (repointed (shared lo hi) (shared mid hi) g))
    ∙ size-append (child_entries (repointed (shared lo hi) (shared lo mid) f)) (child_entries (repointed (shared lo hi) (shared mid hi) g))
    ∙ ap₂ (λ a b. a + b) (branches-size (shared lo hi) (shared lo mid) f) (branches-size (shared lo hi) (shared mid hi) g)

-- and its pivots' suffixes are short
pub all-allowed-append : (es fs : List Entry) → all_allowed es ≡ true → all_allowed fs ≡ true → all_allowed (es ++ fs) ≡ true
unfolding all_allowed
all-allowed-append [] fs a b = b
all-allowed-append (e ∷ es) fs a b = both (and_left (allowed e) _ a) (all-allowed-append es fs (and_right (allowed e) _ a) b)

pub allowed-left : (es fs : List Entry) → all_allowed (es ++ fs) ≡ true → all_allowed es ≡ true
unfolding all_allowed
allowed-left [] fs e = refl
allowed-left (x ∷ es) fs e = both (and_left (allowed x) _ e) (allowed-left es fs (and_right (allowed x) _ e))

pub messages-allowed : (ms : List Message) → all_allowed (message_entries ms) ≡ true
unfolding all_allowed message_entries allowed
messages-allowed [] = refl
messages-allowed (m ∷ ms) = messages-allowed ms

branches-allowed : (J L : List ℕ) (f : Forest) → short_pivots J L f ≡ true → all_allowed (child_entries (repointed J L f)) ≡ true
unfolding all_allowed child_entries allowed repointed short_pivots
branches-allowed J L end e = refl
branches-allowed J L (tree s t f) e =
    both (and_left (leb (length (drop (length J) (L ++ s))) 65) _ e) (branches-allowed J L f (and_right (leb (length (drop (length J) (L ++ s))) 65) _ e))

pub merged-allowed : {t u : Tree} → Pair t u → (lo mid hi : List ℕ) → tree_short (shared lo hi) (shared lo mid) t ≡ true
    → tree_short (shared lo hi) (shared mid hi) u ≡ true → all_allowed (entries_for (merged t u lo mid hi)) ≡ true
unfolding merged tree_short entries_for message_entries
merged-allowed (Pair.leaves i j rs qs) lo mid hi a b = pairs-allowed _
merged-allowed (Pair.inners i j f g) lo mid hi a b =
    ap all_allowed (append-nil (child_entries (followed (repointed (shared lo hi) (shared lo mid) f) (repointed (shared lo hi) (shared mid hi) g)))
    ∙ branches-for-append (repointed (shared lo hi) (shared lo mid) f) (repointed (shared lo hi) (shared mid hi) g))
    ∙ all-allowed-append (child_entries (repointed (shared lo hi) (shared lo mid) f)) (child_entries (repointed (shared lo hi) (shared mid hi) g))
    (branches-allowed (shared lo hi) (shared lo mid) f a) (branches-allowed (shared lo hi) (shared mid hi) g b)

-- what the test says
pub record Fits (t u : Tree) (lo mid hi : List ℕ) : Type 0 where
  pub left : no_message t ≡ true
  pub right : no_message u ≡ true
  pub bytes : tree_bytes (shared lo hi) (shared lo mid) t + tree_bytes (shared lo hi) (shared mid hi) u ≤ 1016
  pub left_short : tree_short (shared lo hi) (shared lo mid) t ≡ true
  pub right_short : tree_short (shared lo hi) (shared mid hi) u ≡ true

pub fits : (t u : Tree) (lo mid hi : List ℕ) → would_fit t u lo mid hi ≡ true → Fits t u lo mid hi
unfolding would_fit
fits t u lo mid hi e =
    let n : ℕ = tree_bytes (shared lo hi) (shared lo mid) t + tree_bytes (shared lo hi) (shared mid hi) u in
    let a : no_message t && no_message u && leb n 1016 && tree_short (shared lo hi) (shared lo mid) t ≡ true = and_left _ _ e in
    let b : no_message t && no_message u && leb n 1016 ≡ true = and_left _ _ a in
    let c : no_message t && no_message u ≡ true = and_left _ _ b in
    record {
      left = and_left (no_message t) _ c;
      right = and_right (no_message t) _ c;
      bytes = leb-true n 1016 (and_right (no_message t && no_message u) _ b);
      left_short = and_right (no_message t && no_message u && leb n 1016) _ a;
      right_short = and_right (no_message t && no_message u && leb n 1016 && tree_short (shared lo hi) (shared lo mid) t) _ e;
    }

-- READING BACK
pub messages-back : (ms : List Message) → messages_of (message_entries ms) ≡ some ms
unfolding messages_of message_entries message_then
messages-back [] = refl
messages-back (m ∷ ms) = rw (messages-back ms)

no-branches-back : (ms : List Message) → inside_of (message_entries ms) ≡ some (record { branches = []; messages = ms })
unfolding inside_of message_entries no_branches
no-branches-back [] = refl
no-branches-back (m ∷ ms) = ap no_branches (messages-back (m ∷ ms))

pub inside_back : (f : Forest) (ms : List Message) → inside_of (child_entries f ++ message_entries ms) ≡ some (record { branches = branches_of f; messages = ms })
unfolding inside_of child_entries branches_of branch_then
inside_back end ms = no-branches-back ms
inside_back (tree s t f) ms = rw (inside_back f ms)
