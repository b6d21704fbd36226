-- What the walk writes of a node's entries is what the tree under the node means: a leaf's pairs are its rows, and an interior node's rows
-- are those of its children that no message of it says anything of, with its puts that decide their paths put in.
-- Relies on the laws that join the bytes of a node to its tree (lookup: Look), on KeepLaws of `live_count` and on the laws of sound trees.
use Rattle.std.specs.Prelude.{ℕ, ◌-◌, ◌<◌, ◌≤◌, ◌≡◌, refl, List, [], ◌∷◌, ◌++◌, Bool, true, false, ◌&&◌, not, cond, length, drop, leb}
use Rattle.image.specs.Prelude.{sym, ap, ◌∙◌, false≢true, and_comm, Option, none, some, arith, length-append, drop-append_seam}
use Rattle.image.specs.Bytes.{begins, shared}
use Rattle.image.specs.Path.{path_limit, well_formed, owns, value_fits}
use Rattle.image.specs.Entry as defined
use Rattle.image.specs.Table.{Row, under_prefix, every_key, with_row}
use Rattle.image.specs.Image.{Tree, leaf, interior, Forest, Branch, Inside, nodes_of, pair_then, pairs_of, message_then, messages_of, no_branches, branch_then, inside_of, forest_of, tree_at}
use Rattle.image.specs.Meaning.{newest, apply, apply_all, rows, rows_in}
use Rattle.image.specs.Sound.{sound_tree, sound_forest, sound_message, sound_messages, first_pivot, values_fit}
use Rattle.octets.specs.Order.{and_left, and_right, begins-split}
use Rattle.laws.specs.Rising.{both}
use Rattle.laws.specs.RowsRising.{every-key, rows-rise-in}
use Rattle.laws.specs.LookupTable.{inner, outside, outside-in}
use Rattle.laws.specs.Filter.{keep, keep-none, keep-passes, keep-rises, every-imp, owned-begins}
use Rattle.laws.specs.Reading.Relative.{usable}
use Rattle.node.specs.Search.Latest.{newest_among}
use Rattle.node.specs.Search.Own.{branches_among}
use Rattle.lookup.specs.Look.{listing, leaf-at, interior-at, inside-splits, messages-newest}
use Rattle.live_count.specs.Live.{holds_no_message, short, Shortens}
use Rattle.live_count.specs.KeepLaws.{added, insert_puts, messages-keep}
use Rattle.live_count.specs.WalkLaws.{same_tests}
use Rattle.live_count.specs.Walk.{decides}
use Rattle.dump.specs.Dump.{pairs_among, entry_value_fits, values_fit_among, with_entry, insert_among, Untold}
use Rattle.dump.specs.Replacing.{keeps_rows, only_puts, put_among, put_fits, puts_fit}
use Rattle.laws.specs.ValuesFit.{leaf-values}

-- A LEAF'S PAIRS
pub record PairsAre (es : List defined.Entry) (rs : List Row) : Type 0 where
  pub are : pairs_among es ≡ rs
  pub fit : values_fit_among es ≡ values_fit rs

pair-first : (k v : List ℕ) (es : List defined.Entry) (ts : List Row) → PairsAre es ts → PairsAre (defined.pair k v ∷ es) (record { key = k; value = v } ∷ ts)
unfolding pairs_among values_fit_among entry_value_fits values_fit
pair-first k v es ts a = record { are = ap (λ l. record { key = k; value = v } ∷ l) a.are; fit = ap (λ b. value_fits v && b) a.fit }

pub pairs-are : (es : List defined.Entry) (rs : List Row) → pairs_of es ≡ some rs → PairsAre es rs
unfolding pairs_of
pairs-are [] rs h =
    let q : rs ≡ [] = cc in
    rw q (record { are = none-are; fit = none-fit })
  where
    none-are : pairs_among [] ≡ []
    none-are = unfold pairs_among in refl

    none-fit : values_fit_among [] ≡ values_fit []
    none-fit = unfold values_fit_among values_fit in refl
pairs-are (defined.pair k v ∷ es) rs h = go (pairs_of es) refl (pairs-are es)
  where
    go : (o : Option (List Row)) → pairs_of es ≡ o → ((ts : List Row) → pairs_of es ≡ some ts → PairsAre es ts) → PairsAre (defined.pair k v ∷ es) rs
    go none e ih = let q : none ≡ some rs = unfold pair_then in rw e at h in let z : ◌≡◌ {A = ℕ} 0 1 = cc in absurd (omega arith)
    go (some ts) e ih =
        let q : some (record { key = k; value = v } ∷ ts) ≡ some rs = unfold pair_then in rw e at h in
        let p : rs ≡ record { key = k; value = v } ∷ ts = cc in
        rw p (pair-first k v es ts (ih ts e))
pairs-are (defined.child i k ∷ es) rs h = let q : none ≡ some rs = unfold pair_then in h in let z : ◌≡◌ {A = ℕ} 0 1 = cc in absurd (omega arith)
pairs-are (defined.message m ∷ es) rs h = let q : none ≡ some rs = unfold pair_then in h in let z : ◌≡◌ {A = ℕ} 0 1 = cc in absurd (omega arith)

rows-leaf : (i : ℕ) (rs : List Row) (lo hi : List ℕ) → under_prefix (shared lo hi) rs ≡ rows (leaf i rs) lo hi
unfolding rows
rows-leaf i rs lo hi = refl

module _ (s : List ℕ) (i level : ℕ) (u : usable (nodes_of (length s)) (tree_at level s i) ≡ true) (lo hi : List ℕ)
    (sound : sound_tree (tree_at level s i) lo hi ≡ true) where
  pub leaf-is : level ≤ 1 → under_prefix (shared lo hi) (pairs_among (listing s i)) ≡ rows (tree_at level s i) lo hi
  leaf-is l =
      let n = leaf-at s i level l u in
      ap (λ es. under_prefix (shared lo hi) (pairs_among es)) n.node.lists ∙ ap (under_prefix (shared lo hi)) (pairs-are n.es n.rs n.pairs).are
      ∙ rows-leaf i n.rs lo hi ∙ ap (λ t. rows t lo hi) (sym n.tree)

  pub leaf-fits : level ≤ 1 → values_fit_among (listing s i) ≡ true
  leaf-fits l =
      let n = leaf-at s i level l u in
      ap (λ es. values_fit_among es) n.node.lists ∙ (pairs-are n.es n.rs n.pairs).fit
      ∙ leaf-values i n.rs lo hi (ap (λ t. sound_tree t lo hi) (sym n.tree) ∙ sound)

-- AN INTERIOR NODE'S MESSAGES
-- what holds of entries that are the messages ms
record MessagesAre (ok : List ℕ → Bool) (prefix : List ℕ) (es : List defined.Entry) (ms : List defined.Message) : Type 0 where
  are : (t : List Row) → insert_among ok prefix es t ≡ insert_puts ok prefix ms t
  fit : (lo hi : List ℕ) → sound_messages lo hi ms ≡ true → values_fit_among es ≡ true
  put : only_puts es ≡ true → (t : List Row) → put_among prefix es t ≡ apply_all prefix ms t
  puts_fit : (lo hi : List ℕ) → shared lo hi ≡ prefix → sound_messages lo hi ms ≡ true → puts_fit prefix es ≡ true

entry-added : (ok : List ℕ → Bool) (prefix : List ℕ) (m : defined.Message) (es : List defined.Entry) (ms : List defined.Message) (t : List Row)
    → ((r : List ℕ) → newest_among es r ≡ newest ms r)
    → with_entry (decides ok prefix (defined.message m) es) prefix (defined.message m) t ≡ added (λ q. ok q && holds_no_message (newest ms (drop (length prefix) q))) prefix m t
unfolding with_entry decides added
entry-added ok prefix (defined.puts k v) es ms t n =
    ap (λ b. cond b (with_row (prefix ++ k) v t) t)
    (ap (λ x. holds_no_message x && ok (prefix ++ k)) (n k) ∙ and_comm (holds_no_message (newest ms k)) (ok (prefix ++ k))
    ∙ ap (λ r. ok (prefix ++ k) && holds_no_message (newest ms r)) (sym (drop-append_seam prefix k)))
entry-added ok prefix (defined.drops k) es ms t n = refl
entry-added ok prefix (defined.clears k) es ms t n = refl

message-fits : (lo hi : List ℕ) (m : defined.Message) → sound_message lo hi m ≡ true → entry_value_fits (defined.message m) ≡ true
unfolding sound_message entry_value_fits
message-fits lo hi (defined.puts k v) e = and_right (well_formed (shared lo hi ++ k) && owns lo hi (shared lo hi ++ k)) (value_fits v) e
message-fits lo hi (defined.drops k) e = refl
message-fits lo hi (defined.clears k) e = refl

-- a put does to a table what its entry does
entry-applied : (prefix : List ℕ) (m : defined.Message) (t : List Row) → keeps_rows (defined.message m) ≡ true → with_entry true prefix (defined.message m) t ≡ apply prefix m t
unfolding with_entry apply keeps_rows
entry-applied prefix (defined.puts k v) t e = refl
entry-applied prefix (defined.drops k) t e = absurd (false≢true e)
entry-applied prefix (defined.clears k) t e = absurd (false≢true e)

put-fits : (prefix lo hi : List ℕ) (m : defined.Message) → shared lo hi ≡ prefix → sound_message lo hi m ≡ true → put_fits prefix (defined.message m) ≡ true
unfolding sound_message put_fits well_formed short
put-fits prefix lo hi (defined.puts k v) q e =
    both (ap (λ Y. leb (length (Y ++ k)) path_limit) (sym q) ∙ and_left _ _ (and_left _ _ (and_left _ _ e)))
    (and_right (well_formed (shared lo hi ++ k) && owns lo hi (shared lo hi ++ k)) (value_fits v) e)
put-fits prefix lo hi (defined.drops k) q e = refl
put-fits prefix lo hi (defined.clears k) q e = refl

insert-cons : (ok : List ℕ → Bool) (prefix : List ℕ) (e : defined.Entry) (es : List defined.Entry) (t : List Row)
    → insert_among ok prefix (e ∷ es) t ≡ insert_among ok prefix es (with_entry (decides ok prefix e es) prefix e t)
unfolding insert_among
insert-cons ok prefix e es t = refl

puts-cons : (ok : List ℕ → Bool) (prefix : List ℕ) (m : defined.Message) (ms : List defined.Message) (t : List Row)
    → insert_puts ok prefix ms (added (λ q. ok q && holds_no_message (newest ms (drop (length prefix) q))) prefix m t) ≡ insert_puts ok prefix (m ∷ ms) t
unfolding insert_puts
puts-cons ok prefix m ms t = refl

values-cons : (e : defined.Entry) (es : List defined.Entry) → entry_value_fits e ≡ true → values_fit_among es ≡ true → values_fit_among (e ∷ es) ≡ true
unfolding values_fit_among
values-cons e es a b = both a b

none-are : (ok : List ℕ → Bool) (prefix : List ℕ) → MessagesAre ok prefix [] []
unfolding insert_among insert_puts values_fit_among put_among apply_all puts_fit
none-are ok prefix = record { are = λ t. refl; fit = λ lo hi h. refl; put = λ o t. refl; puts_fit = λ lo hi q h. refl }

messages-are : (ok : List ℕ → Bool) (prefix : List ℕ) (es : List defined.Entry) (ms : List defined.Message) → messages_of es ≡ some ms → MessagesAre ok prefix es ms
unfolding messages_of
messages-are ok prefix [] ms h = let q : ms ≡ [] = cc in rw q (none-are ok prefix)
messages-are ok prefix (defined.pair k v ∷ es) ms h = let q : none ≡ some ms = h in let z : ◌≡◌ {A = ℕ} 0 1 = cc in absurd (omega arith)
messages-are ok prefix (defined.child i k ∷ es) ms h = let q : none ≡ some ms = h in let z : ◌≡◌ {A = ℕ} 0 1 = cc in absurd (omega arith)
messages-are ok prefix (defined.message m ∷ es) ms h = go (messages_of es) refl (messages-are ok prefix es)
  where
    go : (o : Option (List defined.Message)) → messages_of es ≡ o → ((ts : List defined.Message) → messages_of es ≡ some ts → MessagesAre ok prefix es ts)
        → MessagesAre ok prefix (defined.message m ∷ es) ms
    go none e ih = let q : none ≡ some ms = unfold message_then in rw e at h in let z : ◌≡◌ {A = ℕ} 0 1 = cc in absurd (omega arith)
    go (some ts) e ih =
        let q : some (m ∷ ts) ≡ some ms = unfold message_then in rw e at h in
        let p : ms ≡ m ∷ ts = cc in
        rw p (record {
          are = λ t. insert-cons ok prefix (defined.message m) es t ∙ (ih ts e).are (with_entry (decides ok prefix (defined.message m) es) prefix (defined.message m) t)
              ∙ ap (λ l. insert_puts ok prefix ts l) (entry-added ok prefix m es ts t (λ r. messages-newest es ts r e)) ∙ puts-cons ok prefix m ts t;
          fit = λ lo hi g. values-cons (defined.message m) es (message-fits lo hi m (first lo hi ts g)) ((ih ts e).fit lo hi (later lo hi ts g));
          put = λ o t. put_first o t ∙ (ih ts e).put (keeps-later o) (apply prefix m t) ∙ apply-first ts t;
          puts_fit = λ lo hi q g. fits-first (put-fits prefix lo hi m q (first lo hi ts g)) ((ih ts e).puts_fit lo hi q (later lo hi ts g));
        })
      where
        keeps-later : only_puts (defined.message m ∷ es) ≡ true → only_puts es ≡ true
        keeps-later o = unfold only_puts in and_right (keeps_rows (defined.message m)) _ o

        put_first : only_puts (defined.message m ∷ es) ≡ true → (t : List Row) → put_among prefix (defined.message m ∷ es) t ≡ put_among prefix es (apply prefix m t)
        put_first o t = unfold only_puts put_among in ap (λ l. put_among prefix es l) (entry-applied prefix m t (and_left _ _ o))

        apply-first : (ts : List defined.Message) (t : List Row) → apply_all prefix ts (apply prefix m t) ≡ apply_all prefix (m ∷ ts) t
        apply-first ts t = unfold apply_all in refl

        fits-first : put_fits prefix (defined.message m) ≡ true → puts_fit prefix es ≡ true → puts_fit prefix (defined.message m ∷ es) ≡ true
        fits-first a b = unfold puts_fit in both a b

        first : (lo hi : List ℕ) (ts : List defined.Message) → sound_messages lo hi (m ∷ ts) ≡ true → sound_message lo hi m ≡ true
        first lo hi ts g = unfold sound_messages in and_left _ _ g

        later : (lo hi : List ℕ) (ts : List defined.Message) → sound_messages lo hi (m ∷ ts) ≡ true → sound_messages lo hi ts ≡ true
        later lo hi ts g = unfold sound_messages in and_right (sound_message lo hi m) _ g

child-skips : (ok : List ℕ → Bool) (prefix : List ℕ) (i : ℕ) (k : List ℕ) (es : List defined.Entry) (ms : List defined.Message) → MessagesAre ok prefix es ms
    → MessagesAre ok prefix (defined.child i k ∷ es) ms
unfolding insert_among with_entry values_fit_among entry_value_fits only_puts keeps_rows put_among puts_fit put_fits
child-skips ok prefix i k es ms a = record { are = a.are; fit = a.fit; put = a.put; puts_fit = a.puts_fit }

inside-are : (ok : List ℕ → Bool) (prefix : List ℕ) (es : List defined.Entry) (x : Inside) → inside_of es ≡ some x → MessagesAre ok prefix es x.messages
unfolding inside_of
inside-are ok prefix [] x h =
    let p : (record { branches = []; messages = [] }) ≡ x = cc in
    rw (← p) (none-are ok prefix)
inside-are ok prefix (defined.pair k v ∷ es) x h = let q : none ≡ some x = h in let z : ◌≡◌ {A = ℕ} 0 1 = cc in absurd (omega arith)
inside-are ok prefix (defined.child i k ∷ es) x h = go (inside_of es) refl (inside-are ok prefix es)
  where
    go : (o : Option Inside) → inside_of es ≡ o → ((y : Inside) → inside_of es ≡ some y → MessagesAre ok prefix es y.messages)
        → MessagesAre ok prefix (defined.child i k ∷ es) x.messages
    go none e ih = let q : none ≡ some x = unfold branch_then in rw e at h in let z : ◌≡◌ {A = ℕ} 0 1 = cc in absurd (omega arith)
    go (some y) e ih =
        let q : some (record { branches = record { number = i; pivot = k } ∷ y.branches; messages = y.messages }) ≡ some x = unfold branch_then in rw e at h in
        let p : (record { branches = record { number = i; pivot = k } ∷ y.branches; messages = y.messages }) ≡ x = cc in
        rw (← p) (child-skips ok prefix i k es y.messages (ih y e))
inside-are ok prefix (defined.message m ∷ es) x h = go (messages_of (defined.message m ∷ es)) refl
  where
    go : (o : Option (List defined.Message)) → messages_of (defined.message m ∷ es) ≡ o → MessagesAre ok prefix (defined.message m ∷ es) x.messages
    go none e = let q : none ≡ some x = unfold no_branches in rw e at h in let z : ◌≡◌ {A = ℕ} 0 1 = cc in absurd (omega arith)
    go (some ms) e =
        let q : some (record { branches = []; messages = ms }) ≡ some x = unfold no_branches in rw e at h in
        let p : (record { branches = []; messages = ms }) ≡ x = cc in
        rw (← p) (messages-are ok prefix (defined.message m ∷ es) ms e)

-- the whole of an interior node
interior-rows : (i : ℕ) (f : Forest) (ms : List defined.Message) (lo hi : List ℕ) → rows (interior i f ms) lo hi ≡ apply_all (shared lo hi) ms (rows_in f (shared lo hi) hi)
unfolding rows
interior-rows i f ms lo hi = refl

pivot-first : (i : ℕ) (f : Forest) (ms : List defined.Message) (lo hi : List ℕ) → sound_tree (interior i f ms) lo hi ≡ true → first_pivot (shared lo hi) lo f ≡ true
unfolding sound_tree
pivot-first i f ms lo hi e = and_left _ _ (and_left _ _ e)

no-pivot : (under : ℕ → Tree) (ks : List Branch) (prefix lo : List ℕ) → ks ≡ [] → first_pivot prefix lo (forest_of under ks) ≡ false
unfolding first_pivot forest_of
no-pivot under ks prefix lo q = rw q

module _ (s : List ℕ) (i level : ℕ) (u : usable (nodes_of (length s)) (tree_at level s i) ≡ true) (two : 2 ≤ level) (lo hi : List ℕ)
    (sound : sound_tree (tree_at level s i) lo hi ≡ true) where
  abbrev prefix : List ℕ
  prefix = shared lo hi

  abbrev forest : Forest
  forest = forest_of (λ j. tree_at (level - 1) s j) (branches_among (listing s i))

  record Opened : Type 0 where
    ms : List defined.Message
    tree_is : tree_at level s i ≡ interior i forest ms
    newest_is : (r : List ℕ) → newest_among (listing s i) r ≡ newest ms r
    are : (ok : List ℕ → Bool) → MessagesAre ok prefix (listing s i) ms

  opened : Opened
  opened =
      let n = interior-at s i level two u in
      let p = inside-splits n.es n.x n.splits in
      let b : branches_among (listing s i) ≡ n.x.branches = ap (λ es. branches_among es) n.node.lists ∙ p.branches in
      record {
        ms = n.x.messages;
        tree_is = n.tree ∙ ap (λ ks. interior i (forest_of (λ j. tree_at (level - 1) s j) ks) n.x.messages) (sym b);
        newest_is = λ r. ap (λ es. newest_among es r) n.node.lists ∙ p.newest r;
        are = λ ok. rw n.node.lists (inside-are ok prefix n.es n.x n.splits);
      }

  sound-inner : sound_tree (interior i forest opened.ms) lo hi ≡ true
  sound-inner = ap (λ t. sound_tree t lo hi) (sym opened.tree_is) ∙ sound

  pub branches_sound : sound_forest forest prefix lo hi ≡ true
  branches_sound = (inner i forest opened.ms lo hi sound-inner).branches

  pub interior-fits : values_fit_among (listing s i) ≡ true
  interior-fits = (opened.are (λ q. true)).fit lo hi (inner i forest opened.ms lo hi sound-inner).wait

  pub interior-puts-fit : puts_fit prefix (listing s i) ≡ true
  interior-puts-fit = (opened.are (λ q. true)).puts_fit lo hi refl (inner i forest opened.ms lo hi sound-inner).wait

  -- where the messages are puts, they go into the children's rows as they are
  pub interior-puts : only_puts (listing s i) ≡ true → put_among prefix (listing s i) (rows_in forest prefix hi) ≡ rows (tree_at level s i) lo hi
  interior-puts o =
      (opened.are (λ q. true)).put o (rows_in forest prefix hi) ∙ sym (interior-rows i forest opened.ms lo hi) ∙ ap (λ t. rows t lo hi) (sym opened.tree_is)

  pub has-branches : branches_among (listing s i) ≡ [] → ⊥
  has-branches q =
      false≢true (sym (no-pivot (λ j. tree_at (level - 1) s j) (branches_among (listing s i)) prefix lo q) ∙ pivot-first i forest opened.ms lo hi sound-inner)

  module _ (ok more : List ℕ → Bool) (h : (q : List ℕ) → more q ≡ ok q && holds_no_message (newest_among (listing s i) (drop (length prefix) q))) where
    branches-owned : every_key (owns lo hi) (rows_in forest prefix hi) ≡ true
    branches-owned = every-key (owns lo hi) (rows_in forest prefix hi) (λ q o. outside-in forest prefix lo hi q branches_sound o)

    pub interior-is : keep ok (rows (tree_at level s i) lo hi) ≡ insert_among ok prefix (listing s i) (keep more (rows_in forest prefix hi))
    interior-is =
        ap (λ t. keep ok (rows t lo hi)) opened.tree_is
        ∙ ap (keep ok) (interior-rows i forest opened.ms lo hi)
        ∙ messages-keep ok lo hi opened.ms (rows_in forest prefix hi) (inner i forest opened.ms lo hi sound-inner).wait (rows-rise-in forest prefix lo hi branches_sound) branches-owned
        ∙ ap (λ t. insert_puts ok prefix opened.ms t)
        (same_tests (λ f. keep f (rows_in forest prefix hi)) (λ q. ok q && holds_no_message (newest opened.ms (drop (length prefix) q))) more
        (λ q. ap (λ w. ok q && holds_no_message w) (sym (opened.newest_is (drop (length prefix) q))) ∙ sym (h q)))
        ∙ sym ((opened.are ok).are (keep more (rows_in forest prefix hi)))

    pub interior-untold : Untold prefix (listing s i) (keep more (rows_in forest prefix hi))
    interior-untold =
        record {
          rises = keep-rises more (rows_in forest prefix hi) (rows-rise-in forest prefix lo hi branches_sound);
          quiet = keep-passes (owns lo hi) more (λ q. holds_no_message (newest_among (listing s i) (drop (length prefix) q))) (rows_in forest prefix hi)
              (λ q o p. and_right (ok q) _ (sym (h q) ∙ p)) branches-owned;
        }

-- A PREFIX THAT IS TOO LONG FOR ANY PATH
pub long-none : (ok : List ℕ → Bool) (t : Tree) (lo hi : List ℕ) → Shortens ok → 64 < length (shared lo hi) → sound_tree t lo hi ≡ true → keep ok (rows t lo hi) ≡ []
unfolding Shortens
long-none ok t lo hi short l sound =
    keep-none ok (rows t lo hi)
    (every-imp (owns lo hi) (λ q. not (ok q)) (rows t lo hi) (λ q o. ap not (short q (long q (owned-begins lo hi q o))))
    (every-key (owns lo hi) (rows t lo hi) (λ q o. outside t lo hi q sound o)))
  where
    long : (q : List ℕ) → begins (shared lo hi) q ≡ true → 64 < length q
    long q b =
        let e : length (shared lo hi ++ drop (length (shared lo hi)) q) ≡ length q = ap length (begins-split (shared lo hi) q b) in
        let n = length-append (shared lo hi) (drop (length (shared lo hi)) q) in
        omega arith
