-- Sizes of a node whose children are merged; and a flush taken child by child instead of message by message, as code does it.
-- These laws rest on a definition which a must-fail edit changes; the others of the name are in specs.
use Rattle.std.specs.Prelude.{ℕ, zero, suc, ◌≤◌, ◌≡◌, List, ◌∷◌, ◌++◌, true}
use Rattle.image.specs.Prelude.{arith, cases}
use Rattle.image.specs.Entry.{Message, child}
use Rattle.image.specs.Image.{Tree, interior, Forest, end, tree}
use Rattle.image.specs.Meaning.{high_of}
use Rattle.laws.specs.Encode.{all_allowed}
use Rattle.octets.specs.Order.{and_right}
use Rattle.laws.specs.Page.{number_of, child_entries}
use Rattle.laws.specs.Upkeep.Merge.{same_kind, merged, merged-number}
use Rattle.laws.specs.Upkeep.Size.{message_entries, entries_for, size_of, own_bytes, size-append, size-cons, Fits, fits, merged-size, merged-allowed}
use Rattle.laws.specs.Upkeep.Join.{joins, join_at}
use Rattle.laws.proofs.Upkeep.Join.{join-pair}

-- HEAL: the merged node fits, and the node above it loses an entry
pub merged-fits : (t u : Tree) (lo mid hi : List ℕ) → joins t u lo mid hi ≡ true → own_bytes (merged t u lo mid hi) ≤ 1016
unfolding joins
merged-fits t u lo mid hi e =
    let w : Fits t u lo mid hi = fits t u lo mid hi (and_right (same_kind t u) _ e) in
    omega (arith, w.bytes, merged-size (join-pair t u lo mid hi e) lo mid hi)

pub merged-short : (t u : Tree) (lo mid hi : List ℕ) → joins t u lo mid hi ≡ true → all_allowed (entries_for (merged t u lo mid hi)) ≡ true
unfolding joins
merged-short t u lo mid hi e =
    let w : Fits t u lo mid hi = fits t u lo mid hi (and_right (same_kind t u) _ e) in
    merged-allowed (join-pair t u lo mid hi e) lo mid hi w.left_short w.right_short

join-size : (k : ℕ) (f : Forest) (lifted hi : List ℕ) → size_of (child_entries (join_at k f lifted hi)) ≤ size_of (child_entries f)
unfolding join_at child_entries
join-size k end lifted hi = omega arith
join-size k (tree s t end) lifted hi = omega arith
join-size zero (tree s t (tree q u f)) lifted hi =
    cases (joins t u (lifted ++ s) (lifted ++ q) (high_of lifted hi f)) (λ a. rw (a, merged-number (join-pair t u (lifted ++ s) (lifted ++ q) (high_of lifted hi f) a) (lifted ++ s) (lifted ++ q) (high_of lifted hi f))
    (omega (arith, size-cons (child (number_of t) s) (child_entries f), size-cons (child (number_of t) s) (child (number_of u) q ∷ child_entries f), size-cons (child (number_of u) q) (child_entries f))))
    (λ a. rw a (omega arith))
join-size (suc k) (tree s t (tree q u f)) lifted hi =
    omega (arith, join-size k (tree q u f) lifted hi, size-cons (child (number_of t) s) (child_entries (join_at k (tree q u f) lifted hi)), size-cons (child (number_of t) s) (child_entries (tree q u f)))

-- the node itself is not longer than it was
pub join-own : (i k : ℕ) (f : Forest) (ms : List Message) (lifted hi : List ℕ) → own_bytes (interior i (join_at k f lifted hi) ms) ≤ own_bytes (interior i f ms)
unfolding own_bytes entries_for
join-own i k f ms lifted hi =
    omega (arith, join-size k f lifted hi, size-append (child_entries (join_at k f lifted hi)) (message_entries ms), size-append (child_entries f) (message_entries ms))
