-- A flush by one level: all messages of a node, oldest first, go to its children.
use Rattle.std.specs.Prelude.{ℕ, ◌-◌, ◌≡◌, refl, List, [], ◌∷◌, ◌++◌, Bool, true, false, ◌&&◌, ◌||◌, cond, length, drop, leb}
use Rattle.image.specs.Prelude.{sym, ap, ap₂, subst, ◌∙◌, append-nil, cases}
use Rattle.image.specs.Bytes.{same, begins, shared}
use Rattle.image.specs.Path.{below, owns, well_formed, value_fits}
use Rattle.image.specs.Entry.{Message, puts, drops, clears}
use Rattle.image.specs.Table.{Row, without, without_below, every_key, under_prefix}
use Rattle.image.specs.Image.{Tree, unread, leaf, interior, Forest, end, tree}
use Rattle.image.specs.Meaning.{high_of, apply, apply_all, rows, rows_in}
use Rattle.image.specs.Sound.{sound_tree, sound_forest, sound_message, sound_messages, first_pivot, values_fit, numbers, numbers_in}
use Rattle.octets.specs.Order.{and_left, and_right, not_so, same-eq, begins-split, drop-beyond}
use Rattle.laws.specs.Rising.{both}
use Rattle.laws.specs.Filter.{every-with, owned-begins}
use Rattle.laws.specs.RowsRising.{leaf-rises, rising-apply}
use Rattle.laws.specs.LookupTable.{Parts, parts, inner, leaf-owned}
use Rattle.laws.specs.Frame.{or_right}
use Rattle.laws.specs.PushDown.{apply-nil-under, taken, touches, lowered, sent, pushed, raised, high-pushed, push-apply}
use Rattle.laws.specs.Upkeep.Sublists.{Sub, sub_refl}
use Rattle.laws.specs.Page.{number_of}
use Rattle.laws.specs.Upkeep.Merge.{tall, tall_in, first_of, inner-sound}
use Rattle.laws.specs.Upkeep.Mends.{Mends}
use Rattle.laws.specs.Upkeep.Alter.{Sane, altered}
use Rattle.octets.specs.Beginnings.{begins-append as begins-longer, shared-right as shared_second, shared-most as begins-shared}
use Rattle.laws.specs.ValuesFit.{with-fit as values-with, leaf-values, without-fit as values-without, cleared-fit as values-cleared}
use Rattle.laws.specs.Pieces.{messages-none}

-- all messages of a node, oldest first, each to the children that it touches
unfoldable pub pushed_all : List Message → Forest → List ℕ → List ℕ → Forest
pushed_all [] f lifted hi = f
pushed_all (m ∷ ms) f lifted hi = pushed_all ms (pushed (raised lifted m) f lifted hi) lifted hi

unfoldable pub flushed_node : Tree → List ℕ → List ℕ → Tree
flushed_node (unread i) lo hi = unread i
flushed_node (leaf i rs) lo hi = leaf i rs
flushed_node (interior i f ms) lo hi = interior i (pushed_all ms f (shared lo hi) hi) []

high-begins : (f : Forest) (lo hi : List ℕ) → begins (shared lo hi) (high_of (shared lo hi) hi f) ≡ true
unfolding high_of
high-begins end lo hi = shared_second lo hi
high-begins (tree s t f) lo hi = begins-longer (shared lo hi) s

-- tests of a table after a message
unfoldable pub passes : (List ℕ → Bool) → List ℕ → Message → Bool
passes test l (puts s v) = test (l ++ s)
passes test l (drops s) = true
passes test l (clears s) = true

unfoldable pub small_value : Message → Bool
small_value (puts s v) = value_fits v
small_value (drops s) = true
small_value (clears s) = true

every-without : (test : List ℕ → Bool) (p : List ℕ) (t : List Row) → every_key test t ≡ true → every_key test (without p t) ≡ true
unfolding every_key without
every-without test p [] e = refl
every-without test p (r ∷ t) e =
    cases (same p r.key) (λ b. rw b (every-without test p t (and_right (test r.key) _ e)))
    (λ b. rw b (both (and_left (test r.key) _ e) (every-without test p t (and_right (test r.key) _ e))))

every-cleared : (test : List ℕ → Bool) (p : List ℕ) (t : List Row) → every_key test t ≡ true → every_key test (without_below p t) ≡ true
unfolding every_key without_below
every-cleared test p [] e = refl
every-cleared test p (r ∷ t) e =
    cases (below r.key p) (λ b. rw b (every-cleared test p t (and_right (test r.key) _ e)))
    (λ b. rw b (both (and_left (test r.key) _ e) (every-cleared test p t (and_right (test r.key) _ e))))

every-apply : (test : List ℕ → Bool) (l : List ℕ) (m : Message) (t : List Row) → passes test l m ≡ true → every_key test t ≡ true → every_key test (apply l m t) ≡ true
unfolding apply passes
every-apply test l (puts s v) t a e = every-with test (l ++ s) v t a e
every-apply test l (drops s) t a e = every-without test (l ++ s) t e
every-apply test l (clears s) t a e = every-cleared test (l ++ s) t e

pub values-apply : (l : List ℕ) (m : Message) (t : List Row) → small_value m ≡ true → values_fit t ≡ true → values_fit (apply l m t) ≡ true
unfolding apply small_value
values-apply l (puts s v) t a e = values-with (l ++ s) v t a e
values-apply l (drops s) t a e = values-without (l ++ s) t e
values-apply l (clears s) t a e = values-cleared (l ++ s) t e

-- what a sound message says of these tests
message-formed : (lo hi : List ℕ) (m : Message) → sound_message lo hi m ≡ true → passes well_formed (shared lo hi) m ≡ true
unfolding sound_message passes
message-formed lo hi (puts s v) e = and_left _ _ (and_left _ _ e)
message-formed lo hi (drops s) e = refl
message-formed lo hi (clears s) e = refl

message-owned : (lo hi : List ℕ) (m : Message) → sound_message lo hi m ≡ true → passes (owns lo hi) (shared lo hi) m ≡ true
unfolding sound_message passes
message-owned lo hi (puts s v) e = and_right (well_formed (shared lo hi ++ s)) _ (and_left _ _ e)
message-owned lo hi (drops s) e = refl
message-owned lo hi (clears s) e = refl

pub message-small : (lo hi : List ℕ) (m : Message) → sound_message lo hi m ≡ true → small_value m ≡ true
unfolding sound_message small_value
message-small lo hi (puts s v) e = and_right (well_formed (shared lo hi ++ s) && owns lo hi (shared lo hi ++ s)) _ e
message-small lo hi (drops s) e = refl
message-small lo hi (clears s) e = refl

-- A CHILD TAKES A SOUND MESSAGE
leaf-formed : (i : ℕ) (rs : List Row) (lo hi : List ℕ) → sound_tree (leaf i rs) lo hi ≡ true → every_key well_formed (under_prefix (shared lo hi) rs) ≡ true
unfolding sound_tree
leaf-formed i rs lo hi e = and_left _ _ (and_left _ _ (and_left _ _ e))

leaf-takes : (i : ℕ) (rs : List Row) (m : Message) (lo hi : List ℕ) → sound_tree (leaf i rs) lo hi ≡ true → sound_message lo hi m ≡ true
    → sound_tree (leaf i (apply [] m rs)) lo hi ≡ true
unfolding sound_tree
leaf-takes i rs m lo hi e w =
    let formed : every_key well_formed (under_prefix (shared lo hi) (apply [] m rs)) ≡ true =
    rw (apply-nil-under (shared lo hi) m rs)
    (every-apply well_formed (shared lo hi) m (under_prefix (shared lo hi) rs) (message-formed lo hi m w) (leaf-formed i rs lo hi e)) in
    let owned : every_key (owns lo hi) (under_prefix (shared lo hi) (apply [] m rs)) ≡ true =
    rw (apply-nil-under (shared lo hi) m rs)
    (every-apply (owns lo hi) (shared lo hi) m (under_prefix (shared lo hi) rs) (message-owned lo hi m w) (leaf-owned i rs lo hi e)) in
    both (both (both formed owned) (rising-apply [] m rs (leaf-rises i rs lo hi e)))
    (values-apply [] m rs (message-small lo hi m w) (leaf-values i rs lo hi e))

messages-append : (lo hi : List ℕ) (ms : List Message) (m : Message) → sound_messages lo hi ms ≡ true → sound_message lo hi m ≡ true → sound_messages lo hi (ms ++ m ∷ []) ≡ true
unfolding sound_messages
messages-append lo hi [] m e w = both w refl
messages-append lo hi (x ∷ ms) m e w = both (and_left (sound_message lo hi x) _ e) (messages-append lo hi ms m (and_right (sound_message lo hi x) _ e) w)

pub taken-sound : (m : Message) (t : Tree) (lo hi : List ℕ) → sound_tree t lo hi ≡ true → sound_message lo hi m ≡ true → sound_tree (taken m t) lo hi ≡ true
unfolding taken
taken-sound m (unread i) lo hi e w = e
taken-sound m (leaf i rs) lo hi e w = leaf-takes i rs m lo hi e w
taken-sound m (interior i f ms) lo hi e w =
    inner-sound i f (ms ++ m ∷ []) lo hi (first_of i f ms lo hi e) (inner i f ms lo hi e).branches (messages-append lo hi ms m (inner i f ms lo hi e).wait w)

-- a node's sound message is sound in each child that it touches; a clear of more than the child owns has the empty suffix there
clear-lowered : (s l c : List ℕ) → begins l c ≡ true → same s [] || well_formed (l ++ s) ≡ true → begins (l ++ s) c || begins c (l ++ s) ≡ true
    → same (drop (length c) (l ++ s)) [] || well_formed (c ++ drop (length c) (l ++ s)) ≡ true
unfolding same
clear-lowered s l c b w h = go (begins (l ++ s) c) refl (same s []) refl
  where
    go : (x : Bool) → begins (l ++ s) c ≡ x → (y : Bool) → same s [] ≡ y
        → same (drop (length c) (l ++ s)) [] || well_formed (c ++ drop (length c) (l ++ s)) ≡ true
    go true a y z = rw (drop-beyond (l ++ s) c a)
    go false a true z =
        let e : l ++ s ≡ l = ap (λ r. l ++ r) (same-eq s [] z) ∙ append-nil l in
        not_so (rw e b) a
    go false a false z =
        let k : begins c (l ++ s) ≡ true = subst (λ x. x || begins c (l ++ s) ≡ true) a h in
        let v : well_formed (l ++ s) ≡ true = subst (λ x. x || well_formed (l ++ s) ≡ true) z w in
        or_right (same (drop (length c) (l ++ s)) []) (well_formed (c ++ drop (length c) (l ++ s))) (rw (begins-split c (l ++ s) k) v)

pub lowered-sound : (m : Message) (lo hi clo chi : List ℕ) → sound_message lo hi m ≡ true → begins (shared lo hi) (shared clo chi) ≡ true
    → touches (raised (shared lo hi) m) clo chi ≡ true → sound_message clo chi (lowered (shared clo chi) (raised (shared lo hi) m)) ≡ true
unfolding sound_message touches raised lowered
lowered-sound (puts s v) lo hi clo chi w b o =
    rw (begins-split (shared clo chi) (shared lo hi ++ s) (owned-begins clo chi (shared lo hi ++ s) o))
    (both (both (and_left (well_formed (shared lo hi ++ s)) _ (and_left _ _ w)) o) (and_right (well_formed (shared lo hi ++ s) && owns lo hi (shared lo hi ++ s)) _ w))
lowered-sound (drops s) lo hi clo chi w b o =
    rw (begins-split (shared clo chi) (shared lo hi ++ s) (owned-begins clo chi (shared lo hi ++ s) o)) (both (and_left (well_formed (shared lo hi ++ s)) _ w) o)
lowered-sound (clears s) lo hi clo chi w b o = clear-lowered s (shared lo hi) (shared clo chi) b w o

pub sent-sound : (m : Message) (t : Tree) (lo hi clo chi : List ℕ) → sound_tree t clo chi ≡ true → sound_message lo hi m ≡ true
    → begins (shared lo hi) (shared clo chi) ≡ true → sound_tree (sent (raised (shared lo hi) m) t clo chi) clo chi ≡ true
unfolding sent
sent-sound m t lo hi clo chi e w b =
    cases (touches (raised (shared lo hi) m) clo chi)
    (λ o. rw o (taken-sound (lowered (shared clo chi) (raised (shared lo hi) m)) t clo chi e (lowered-sound m lo hi clo chi w b o)))
    (λ o. rw o e)

-- THE CHILDREN OF A NODE
pub pushed-sound : (m : Message) (f : Forest) (lo hi : List ℕ) → sound_forest f (shared lo hi) lo hi ≡ true → sound_message lo hi m ≡ true
    → sound_forest (pushed (raised (shared lo hi) m) f (shared lo hi) hi) (shared lo hi) lo hi ≡ true
unfolding pushed sound_forest
pushed-sound m end lo hi e w = refl
pushed-sound m (tree s t f) lo hi e w =
    let p : Parts s t f (shared lo hi) lo hi = parts s t f (shared lo hi) lo hi e in
    rw (high-pushed (raised (shared lo hi) m) f (shared lo hi) hi (shared lo hi) hi)
    (both (both (both p.owned p.rises)
    (sent-sound m t lo hi (shared lo hi ++ s) (high_of (shared lo hi) hi f) p.first w
    (begins-shared (shared lo hi) (shared lo hi ++ s) (high_of (shared lo hi) hi f) (begins-longer (shared lo hi) s) (high-begins f lo hi))))
    (pushed-sound m f lo hi p.later w))

first-pushed : (m : Message) (f : Forest) (lifted hi l k : List ℕ) → first_pivot l k (pushed m f lifted hi) ≡ first_pivot l k f
unfolding pushed first_pivot
first-pushed m end lifted hi l k = refl
first-pushed m (tree s t f) lifted hi l k = refl

pub numbers-taken : (m : Message) (t : Tree) → numbers (taken m t) ≡ numbers t
unfolding taken numbers
numbers-taken m (unread i) = refl
numbers-taken m (leaf i rs) = refl
numbers-taken m (interior i f ms) = refl

numbers-sent : (m : Message) (t : Tree) (lo hi : List ℕ) → numbers (sent m t lo hi) ≡ numbers t
unfolding sent
numbers-sent m t lo hi = go (touches m lo hi)
  where
    go : (b : Bool) → numbers (cond b (taken (lowered (shared lo hi) m) t) t) ≡ numbers t
    go true = numbers-taken (lowered (shared lo hi) m) t
    go false = refl

numbers-pushed : (m : Message) (f : Forest) (lifted hi : List ℕ) → numbers_in (pushed m f lifted hi) ≡ numbers_in f
unfolding pushed numbers_in
numbers-pushed m end lifted hi = refl
numbers-pushed m (tree s t f) lifted hi = ap₂ (λ a b. a ++ b) (numbers-sent m t (lifted ++ s) (high_of lifted hi f)) (numbers-pushed m f lifted hi)

tall-taken : (m : Message) (t : Tree) (level : ℕ) → tall (taken m t) level ≡ tall t level
unfolding taken tall
tall-taken m (unread i) level = refl
tall-taken m (leaf i rs) level = refl
tall-taken m (interior i f ms) level = refl

pub tall-sent : (m : Message) (t : Tree) (lo hi : List ℕ) (level : ℕ) → tall (sent m t lo hi) level ≡ tall t level
unfolding sent
tall-sent m t lo hi level = go (touches m lo hi)
  where
    go : (b : Bool) → tall (cond b (taken (lowered (shared lo hi) m) t) t) level ≡ tall t level
    go true = tall-taken (lowered (shared lo hi) m) t level
    go false = refl

tall-pushed : (m : Message) (f : Forest) (lifted hi : List ℕ) (level : ℕ) → tall_in (pushed m f lifted hi) level ≡ tall_in f level
unfolding pushed tall_in
tall-pushed m end lifted hi level = refl
tall-pushed m (tree s t f) lifted hi level = ap₂ (λ a b. a && b) (tall-sent m t (lifted ++ s) (high_of lifted hi f) level) (tall-pushed m f lifted hi level)

-- all of them, oldest first
pub record PushedAll (ms : List Message) (f g : Forest) (lo hi : List ℕ) : Type 0 where
  pub high : (l h : List ℕ) → high_of l h g ≡ high_of l h f
  pub first : (l k : List ℕ) → first_pivot l k g ≡ first_pivot l k f
  pub table : rows_in g (shared lo hi) hi ≡ apply_all (shared lo hi) ms (rows_in f (shared lo hi) hi)
  pub sound : sound_forest g (shared lo hi) lo hi ≡ true
  pub height : (level : ℕ) → tall_in g level ≡ tall_in f level
  pub nodes : numbers_in g ≡ numbers_in f

pub pushed-all : (ms : List Message) (f : Forest) (lo hi : List ℕ) → first_pivot (shared lo hi) lo f ≡ true → sound_forest f (shared lo hi) lo hi ≡ true
    → sound_messages lo hi ms ≡ true → PushedAll ms f (pushed_all ms f (shared lo hi) hi) lo hi
unfolding pushed_all apply_all sound_messages
pushed-all [] f lo hi a e w = record { high = λ l h. refl; first = λ l k. refl; table = refl; sound = e; height = λ level. refl; nodes = refl }
pushed-all (m ∷ ms) f lo hi a e w =
    let x : Message = raised (shared lo hi) m in
    let g : Forest = pushed (raised (shared lo hi) m) f (shared lo hi) hi in
    let one : sound_message lo hi m ≡ true = and_left _ _ w in
    let p : PushedAll ms (pushed (raised (shared lo hi) m) f (shared lo hi) hi) (pushed_all ms (pushed (raised (shared lo hi) m) f (shared lo hi) hi) (shared lo hi) hi) lo hi =
    pushed-all ms (pushed (raised (shared lo hi) m) f (shared lo hi) hi) lo hi (first-pushed x f (shared lo hi) hi (shared lo hi) lo ∙ a)
    (pushed-sound m f lo hi e one) (and_right (sound_message lo hi m) _ w) in
    record {
      high = λ l h. p.high l h ∙ high-pushed x f (shared lo hi) hi l h;
      first = λ l k. p.first l k ∙ first-pushed x f (shared lo hi) hi l k;
      table = p.table ∙ ap (λ t. apply_all (shared lo hi) ms t) (push-apply m f lo hi a e one);
      sound = p.sound;
      height = λ level. p.height level ∙ tall-pushed x f (shared lo hi) hi level;
      nodes = p.nodes ∙ numbers-pushed x f (shared lo hi) hi;
    }

-- THE NODE: its table, soundness, height and nodes stay, and it holds no message
module _ (i : ℕ) (f : Forest) (ms : List Message) (lo hi : List ℕ) (level : ℕ) (e : sound_tree (interior i f ms) lo hi ≡ true)
    (h : tall (interior i f ms) level ≡ true) where
  all-pushed : PushedAll ms f (pushed_all ms f (shared lo hi) hi) lo hi
  all-pushed = pushed-all ms f lo hi (first_of i f ms lo hi e) (inner i f ms lo hi e).branches (inner i f ms lo hi e).wait

  flush-number : number_of (flushed_node (interior i f ms) lo hi) ≡ number_of (interior i f ms)
  unfolding flushed_node number_of
  flush-number = refl

  pub flush-rows : rows (flushed_node (interior i f ms) lo hi) lo hi ≡ rows (interior i f ms) lo hi
  unfolding flushed_node rows apply_all
  flush-rows = all-pushed.table

  pub flush-sound : sound_tree (flushed_node (interior i f ms) lo hi) lo hi ≡ true
  unfolding flushed_node
  flush-sound =
      inner-sound i (pushed_all ms f (shared lo hi) hi) [] lo hi (all-pushed.first (shared lo hi) lo ∙ first_of i f ms lo hi e) all-pushed.sound (messages-none lo hi)

  pub flush-tall : tall (flushed_node (interior i f ms) lo hi) level ≡ true
  unfolding flushed_node tall
  flush-tall = both (and_left (leb 2 level) _ h) (all-pushed.height (level - 1) ∙ and_right (leb 2 level) _ h)

  pub flush-numbers : numbers (flushed_node (interior i f ms) lo hi) ≡ numbers (interior i f ms)
  unfolding flushed_node numbers
  flush-numbers = ap (λ l. i ∷ l) all-pushed.nodes

  pub flush-mends : Mends (interior i f ms) (flushed_node (interior i f ms) lo hi) lo hi level
  flush-mends =
      record {
        number = flush-number;
        table = flush-rows;
        sound = flush-sound;
        height = flush-tall;
        nodes = subst (λ l. Sub l (numbers (interior i f ms))) (sym flush-numbers) (sub_refl (numbers (interior i f ms)));
      }

pub flush-sane : Sane flushed_node
unfolding Sane
flush-sane i f ms lo hi level e h = flush-mends i f ms lo hi level e h

-- ANYWHERE IN A TREE
unfoldable pub flushed_tree : Tree → ℕ → List ℕ → List ℕ → Tree
flushed_tree t n lo hi = altered t n flushed_node lo hi
