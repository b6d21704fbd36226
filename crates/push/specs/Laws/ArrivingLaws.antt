-- What arrives at the children, told from inside the node, is what the flush of laws/Upkeep sends them: `each-under`.
-- Relies on laws' PushDown and on Room of laws/Upkeep, where pivots and messages are full; here the node's lifted prefix is left away.
use Rattle.std.specs.Prelude.{ℕ, ◌≡◌, refl, List, [], ◌∷◌, ◌++◌, Bool, true, false, ◌||◌, cond, length, drop}
use Rattle.image.specs.Prelude.{sym, ap, ap₂, ◌∙◌, append_assoc, append-nil}
use Rattle.image.specs.Bytes.{begins, shared}
use Rattle.image.specs.Entry.{Message, puts, drops, clears, Entry, pair, child, message}
use Rattle.image.specs.Table.{Row}
use Rattle.image.specs.Image.{Tree, leaf, interior, Forest, end, tree, Branch, forest_of}
use Rattle.image.specs.Meaning.{apply, apply_all}
use Rattle.octets.specs.Order.{begins-append, shared-append}
use Rattle.laws.specs.Encode.{bytes_of, bytes_of_all}
use Rattle.laws.specs.PushDown.{taken, touches, lowered, sent, raised}
use Rattle.laws.specs.Upkeep.Size.{message_entries}
use Rattle.laws.specs.Upkeep.Room.{sent_all, sent_each}
use Rattle.laws.specs.Reading.Relative.{branch_high, high-joined}
use Rattle.laws.specs.Shift.{drop-shift, owns-shift}
use Rattle.push.specs.Laws.Arriving.{waiting, lowered_by, arriving, brought, brought_all}

-- WITH THE LIFTED PREFIX IN FRONT OF EVERYTHING
module _ (l a b : List ℕ) where
  touches-under : (m : Message) → touches (raised l m) (l ++ a) (l ++ b) ≡ touches m a b
  unfolding touches raised
  touches-under (puts p v) = owns-shift l a b p
  touches-under (drops p) = owns-shift l a b p
  touches-under (clears p) =
      ap (λ c. begins (l ++ p) c || begins c (l ++ p)) (shared-append l a b)
      ∙ ap₂ (λ x y. x || y) (begins-append l p (shared a b)) (begins-append l (shared a b) p)

  lowered-under : (m : Message) → lowered (shared (l ++ a) (l ++ b)) (raised l m) ≡ lowered_by (length (shared a b)) m
  unfolding lowered raised lowered_by
  lowered-under (puts p v) = ap (λ c. puts (drop (length c) (l ++ p)) v) (shared-append l a b) ∙ ap (λ q. puts q v) (drop-shift l (shared a b) p)
  lowered-under (drops p) = ap (λ c. drops (drop (length c) (l ++ p))) (shared-append l a b) ∙ ap drops (drop-shift l (shared a b) p)
  lowered-under (clears p) = ap (λ c. clears (drop (length c) (l ++ p))) (shared-append l a b) ∙ ap clears (drop-shift l (shared a b) p)

  sent-under : (m : Message) (t : Tree) → sent (raised l m) t (l ++ a) (l ++ b) ≡ cond (touches m a b) (taken (lowered_by (length (shared a b)) m) t) t
  unfolding sent
  sent-under m t = ap₂ (λ x n. cond x (taken n t) t) (touches-under m) (lowered-under m)

-- A CHILD TAKES WHAT ARRIVES
unfoldable pub taken_all : List Message → Tree → Tree
taken_all [] t = t
taken_all (m ∷ ms) t = taken_all ms (taken m t)

pub all_under : (l a b : List ℕ) (ms : List Message) (t : Tree) → sent_all l ms t (l ++ a) (l ++ b) ≡ taken_all (arriving ms a b) t
unfolding sent_all taken_all arriving
all_under l a b [] t = refl
all_under l a b (m ∷ ms) t = go (touches m a b) refl (λ u. all_under l a b ms u)
  where
    go : (x : Bool) → touches m a b ≡ x → ((u : Tree) → sent_all l ms u (l ++ a) (l ++ b) ≡ taken_all (arriving ms a b) u)
        → sent_all l ms (sent (raised l m) t (l ++ a) (l ++ b)) (l ++ a) (l ++ b) ≡ taken_all (cond (touches m a b) (lowered_by (length (shared a b)) m ∷ arriving ms a b) (arriving ms a b)) t
    go true e ih =
        ap (λ u. sent_all l ms u (l ++ a) (l ++ b)) (sent-under l a b m t ∙ ap (λ x. cond x (taken (lowered_by (length (shared a b)) m) t) t) e)
        ∙ ih (taken (lowered_by (length (shared a b)) m) t)
        ∙ sym (ap (λ x. taken_all (cond x (lowered_by (length (shared a b)) m ∷ arriving ms a b) (arriving ms a b)) t) e)
    go false e ih =
        ap (λ u. sent_all l ms u (l ++ a) (l ++ b)) (sent-under l a b m t ∙ ap (λ x. cond x (taken (lowered_by (length (shared a b)) m) t) t) e)
        ∙ ih t
        ∙ sym (ap (λ x. taken_all (cond x (lowered_by (length (shared a b)) m ∷ arriving ms a b) (arriving ms a b)) t) e)

pub interior-taken : (ns : List Message) (i : ℕ) (f : Forest) (ms : List Message) → taken_all ns (interior i f ms) ≡ interior i f (ms ++ ns)
unfolding taken_all taken
interior-taken [] i f ms = ap (λ l. interior i f l) (sym (append-nil ms))
interior-taken (n ∷ ns) i f ms = interior-taken ns i f (ms ++ n ∷ []) ∙ ap (λ l. interior i f l) (append_assoc ms (n ∷ []) ns)

pub leaf-taken : (ns : List Message) (i : ℕ) (rs : List Row) → taken_all ns (leaf i rs) ≡ leaf i (apply_all [] ns rs)
unfolding taken_all taken apply_all
leaf-taken [] i rs = refl
leaf-taken (n ∷ ns) i rs = leaf-taken ns i (apply [] n rs)

-- ALL CHILDREN
unfoldable pub taken_each : List Message → (ℕ → Tree) → List Branch → List ℕ → Forest
taken_each ms under [] h = end
taken_each ms under (k ∷ ks) h = tree k.pivot (taken_all (arriving ms k.pivot (branch_high h ks)) (under k.number)) (taken_each ms under ks h)

pub each-under : (ms : List Message) (under : ℕ → Tree) (ks : List Branch) (l h : List ℕ) → sent_each ms (forest_of under ks) l (l ++ h) ≡ taken_each ms under ks h
unfolding sent_each forest_of taken_each
each-under ms under [] l h = refl
each-under ms under (k ∷ ks) l h =
    ap₂ (λ t f. tree k.pivot t f)
    (ap (λ z. sent_all l ms (under k.number) (l ++ k.pivot) z) (high-joined under l h ks) ∙ all_under l k.pivot (branch_high h ks) ms (under k.number))
    (each-under ms under ks l h)

-- THE BYTES
pub brought-is : (es : List Entry) (lo hi : List ℕ) → brought_all es lo hi ≡ bytes_of_all (message_entries (arriving (waiting es) lo hi))
unfolding brought_all waiting arriving message_entries bytes_of_all brought
brought-is [] lo hi = refl
brought-is (pair k v ∷ es) lo hi = brought-is es lo hi
brought-is (child i k ∷ es) lo hi = brought-is es lo hi
brought-is (message m ∷ es) lo hi = go (touches m lo hi) refl (brought-is es lo hi)
  where
    go : (x : Bool) → touches m lo hi ≡ x → brought_all es lo hi ≡ bytes_of_all (message_entries (arriving (waiting es) lo hi))
        → cond (touches m lo hi) (bytes_of (message (lowered_by (length (shared lo hi)) m))) [] ++ brought_all es lo hi
        ≡ bytes_of_all (message_entries (cond (touches m lo hi) (lowered_by (length (shared lo hi)) m ∷ arriving (waiting es) lo hi) (arriving (waiting es) lo hi)))
    go true e ih = rw e (ap (λ l. bytes_of (message (lowered_by (length (shared lo hi)) m)) ++ l) ih)
    go false e ih = rw e ih
