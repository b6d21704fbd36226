-- The steps of the insertion: a put that decides its path is not among the rows yet, and goes in at its place; the loop over the entries of an
-- interior node. Relies on what insert_row promises (specs/Insertion: Inserted) and on the laws of tables.
use Rattle.std.specs.Prelude.{ℕ, suc, ◌+◌, ◌*◌, ◌-◌, ◌≤◌, ◌≡◌, refl, List, [], ◌∷◌, ◌++◌, Bool, true, false, ◌&&◌, cond, length, drop}
use Rattle.image.specs.Prelude.{sym, ap, subst, ◌∙◌, true≢false, none, arith, drop-append_seam}
use Rattle.image.specs.Path.{value_fits}
use Rattle.image.specs.Entry as defined
use Rattle.image.specs.Table.{Row, find, with_row, put_all, every_key, rising}
use Rattle.image.specs.Meaning.{Said, nothing, says, newer}
use Rattle.octets.specs.Order.{and-false, and_left, same_refl}
use Rattle.laws.specs.Tables.{find-fails}
use Rattle.laws.specs.Rising.{rising-with}
use Rattle.laws.specs.Filter.{every-imp, every-with}
use Rattle.node.specs.Search.Latest.{entry_says, newest_among}
use Rattle.packed.specs.Rows.Area.{rows_of, RowsFit}
use Rattle.packed.specs.Rows.Steps.{rows-length}
use Rattle.dump.specs.Insertion.Insertion.{Inserted}
use Rattle.dump.specs.Insertion.Merge.{put-among}
use Rattle.dump.specs.Insertion.Slots.{rows-parts}
use Rattle.live_count.specs.Live.{holds_no_message}
use Rattle.live_count.specs.KeepLaws.{with-length, quiet_put}
use Rattle.live_count.specs.Notes.Notes.{NoPut}
use Rattle.live_count.specs.Walk.{decides}
use Rattle.dump.specs.Dump.{entry_value_fits, with_entry, insert_among, Untold, Open, Placed}
use Rattle.dump.specs.AppendSteps.{values-first, values-later}

-- ROWS THAT NO ENTRY SAYS ANYTHING OF
quiet-rest : (a b : Said) → holds_no_message (newer a b) ≡ true → holds_no_message b ≡ true
unfolding newer holds_no_message
quiet-rest a nothing e = refl
quiet-rest a (says v) e = e

quiet-both : (a b : Said) → holds_no_message (newer a b) ≡ true → holds_no_message a ≡ true
unfolding newer holds_no_message
quiet-both a nothing e = e
quiet-both a (says v) e = absurd (true≢false (sym e))

module _ (prefix : List ℕ) (e : defined.Entry) (es : List defined.Entry) (t : List Row) (u : Untold prefix (e ∷ es) t) where
  quiet-later : every_key (λ q. holds_no_message (newest_among es (drop (length prefix) q))) t ≡ true
  unfolding newest_among
  quiet-later =
      every-imp (λ q. holds_no_message (newest_among (e ∷ es) (drop (length prefix) q))) (λ q. holds_no_message (newest_among es (drop (length prefix) q))) t
      (λ q h. quiet-rest (entry_says e (drop (length prefix) q)) (newest_among es (drop (length prefix) q)) h) u.quiet

  untold-skip : Untold prefix es t
  untold-skip = record { rises = u.rises; quiet = quiet-later }

-- the path of a put that is to come is not among them
pub untold-absent : (prefix k v : List ℕ) (es : List defined.Entry) (t : List Row) → Untold prefix (defined.message (defined.puts k v) ∷ es) t → find (prefix ++ k) t ≡ none
unfolding newest_among entry_says
untold-absent prefix k v es t u =
    find-fails (λ q. holds_no_message (newest_among (defined.message (defined.puts k v) ∷ es) (drop (length prefix) q))) (prefix ++ k) t u.quiet (told (holds_no_message (newest_among (defined.message (defined.puts k v) ∷ es) (drop (length prefix) (prefix ++ k)))) refl)
  where
    says-it : holds_no_message (entry_says (defined.message (defined.puts k v)) (drop (length prefix) (prefix ++ k))) ≡ false
    says-it = unfold entry_says in (quiet_put k v (drop (length prefix) (prefix ++ k)) ∙ rw (drop-append_seam prefix k, same_refl k))

    told : (x : Bool) → holds_no_message (newest_among (defined.message (defined.puts k v) ∷ es) (drop (length prefix) (prefix ++ k))) ≡ x
        → holds_no_message (newest_among (defined.message (defined.puts k v) ∷ es) (drop (length prefix) (prefix ++ k))) ≡ false
    told false h = h
    told true h =
        absurd (true≢false (sym (quiet-both (entry_says (defined.message (defined.puts k v)) (drop (length prefix) (prefix ++ k))) (newest_among es (drop (length prefix) (prefix ++ k))) h) ∙ says-it))

untold-with : (prefix k v : List ℕ) (es : List defined.Entry) (t : List Row) → holds_no_message (newest_among es k) ≡ true → Untold prefix es t → Untold prefix es (with_row (prefix ++ k) v t)
untold-with prefix k v es t h u =
    record {
      rises = rising-with (prefix ++ k) v t u.rises;
      quiet = every-with (λ q. holds_no_message (newest_among es (drop (length prefix) q))) (prefix ++ k) v t (rw (drop-append_seam prefix k) h) u.quiet;
    }

-- one entry done: the rows are untold by those that follow
pub untold-next : (ok : List ℕ → Bool) (prefix : List ℕ) (e : defined.Entry) (es : List defined.Entry) (t : List Row) → Untold prefix (e ∷ es) t
    → Untold prefix es (with_entry (decides ok prefix e es) prefix e t)
unfolding with_entry decides
untold-next ok prefix (defined.pair k v) es t u = untold-skip prefix (defined.pair k v) es t u
untold-next ok prefix (defined.child i k) es t u = untold-skip prefix (defined.child i k) es t u
untold-next ok prefix (defined.message (defined.puts k v)) es t u = go (holds_no_message (newest_among es k) && ok (prefix ++ k)) refl
  where
    go : (x : Bool) → holds_no_message (newest_among es k) && ok (prefix ++ k) ≡ x → Untold prefix es (cond x (with_row (prefix ++ k) v t) t)
    go true h = untold-with prefix k v es t (and_left (holds_no_message (newest_among es k)) (ok (prefix ++ k)) h) (untold-skip prefix (defined.message (defined.puts k v)) es t u)
    go false h = untold-skip prefix (defined.message (defined.puts k v)) es t u
untold-next ok prefix (defined.message (defined.drops k)) es t u = untold-skip prefix (defined.message (defined.drops k)) es t u
untold-next ok prefix (defined.message (defined.clears k)) es t u = untold-skip prefix (defined.message (defined.clears k)) es t u

-- the rows become no fewer
entry-grows : (ok : List ℕ → Bool) (prefix : List ℕ) (e : defined.Entry) (es : List defined.Entry) (t : List Row) → Untold prefix (e ∷ es) t
    → length t ≤ length (with_entry (decides ok prefix e es) prefix e t)
unfolding with_entry
entry-grows ok prefix (defined.pair k v) es t u = omega arith
entry-grows ok prefix (defined.child i k) es t u = omega arith
entry-grows ok prefix (defined.message (defined.puts k v)) es t u = go (decides ok prefix (defined.message (defined.puts k v)) es)
  where
    go : (x : Bool) → length t ≤ length (cond x (with_row (prefix ++ k) v t) t)
    go true = let l = with-length (prefix ++ k) v t (untold-absent prefix k v es t u) in omega arith
    go false = omega arith
entry-grows ok prefix (defined.message (defined.drops k)) es t u = omega arith
entry-grows ok prefix (defined.message (defined.clears k)) es t u = omega arith

pub insert-grows : (ok : List ℕ → Bool) (prefix : List ℕ) (es : List defined.Entry) (t : List Row) → Untold prefix es t → length t ≤ length (insert_among ok prefix es t)
unfolding insert_among
insert-grows ok prefix [] t u = omega arith
insert-grows ok prefix (e ∷ es) t u =
    let a = entry-grows ok prefix e es t u in
    let b = insert-grows ok prefix es (with_entry (decides ok prefix e es) prefix e t) (untold-next ok prefix e es t u) in
    omega arith

-- PUTS INTO ROWS OF OTHERS: the entries' puts into the empty table, and its rows into the others, are the puts into the others
pub untold-none : (prefix : List ℕ) (es : List defined.Entry) → Untold prefix es []
unfolding rising every_key
untold-none prefix es = record { rises = refl; quiet = refl }

entry-put : (b : Bool) (prefix : List ℕ) (e : defined.Entry) (u t : List Row) → rising t ≡ true → with_entry b prefix e (put_all u t) ≡ put_all (with_entry b prefix e u) t
unfolding with_entry
entry-put b prefix (defined.pair k v) u t h = refl
entry-put b prefix (defined.child i k) u t h = refl
entry-put true prefix (defined.message (defined.puts k v)) u t h = put-among (prefix ++ k) v u t h
entry-put false prefix (defined.message (defined.puts k v)) u t h = refl
entry-put b prefix (defined.message (defined.drops k)) u t h = refl
entry-put b prefix (defined.message (defined.clears k)) u t h = refl

pub insert-put : (ok : List ℕ → Bool) (prefix : List ℕ) (es : List defined.Entry) (u t : List Row) → rising t ≡ true
    → insert_among ok prefix es (put_all u t) ≡ put_all (insert_among ok prefix es u) t
unfolding insert_among
insert-put ok prefix [] u t h = refl
insert-put ok prefix (e ∷ es) u t h =
    ap (insert_among ok prefix es) (entry-put (decides ok prefix e es) prefix e u t h) ∙ insert-put ok prefix es (with_entry (decides ok prefix e es) prefix e u) t h

pub insert-rises : (ok : List ℕ → Bool) (prefix : List ℕ) (es : List defined.Entry) (t : List Row) → Untold prefix es t → rising (insert_among ok prefix es t) ≡ true
unfolding insert_among
insert-rises ok prefix [] t u = u.rises
insert-rises ok prefix (e ∷ es) t u = insert-rises ok prefix es (with_entry (decides ok prefix e es) prefix e t) (untold-next ok prefix e es t u)

-- two tables grow by the same puts
entry-counts : (ok : List ℕ → Bool) (prefix : List ℕ) (e : defined.Entry) (es : List defined.Entry) (u t : List Row) → Untold prefix (e ∷ es) u → Untold prefix (e ∷ es) t
    → length (with_entry (decides ok prefix e es) prefix e t) + length u ≡ length t + length (with_entry (decides ok prefix e es) prefix e u)
unfolding with_entry
entry-counts ok prefix (defined.pair k v) es u t a b = refl
entry-counts ok prefix (defined.child i k) es u t a b = refl
entry-counts ok prefix (defined.message (defined.puts k v)) es u t a b = go (decides ok prefix (defined.message (defined.puts k v)) es)
  where
    go : (x : Bool) → length (cond x (with_row (prefix ++ k) v t) t) + length u ≡ length t + length (cond x (with_row (prefix ++ k) v u) u)
    go true =
        let l = with-length (prefix ++ k) v t (untold-absent prefix k v es t b) in
        let m = with-length (prefix ++ k) v u (untold-absent prefix k v es u a) in
        omega arith
    go false = refl
entry-counts ok prefix (defined.message (defined.drops k)) es u t a b = refl
entry-counts ok prefix (defined.message (defined.clears k)) es u t a b = refl

pub insert-counts : (ok : List ℕ → Bool) (prefix : List ℕ) (es : List defined.Entry) (u t : List Row) → Untold prefix es u → Untold prefix es t
    → length (insert_among ok prefix es t) + length u ≡ length t + length (insert_among ok prefix es u)
unfolding insert_among
insert-counts ok prefix [] u t a b = refl
insert-counts ok prefix (e ∷ es) u t a b =
    let l = entry-counts ok prefix e es u t a b in
    let m = insert-counts ok prefix es (with_entry (decides ok prefix e es) prefix e u) (with_entry (decides ok prefix e es) prefix e t) (untold-next ok prefix e es u a) (untold-next ok prefix e es t b) in
    omega arith

-- ROWS PLACED
pub placed_same : (area : List ℕ) (first m : ℕ) (t : List Row) → RowsFit m area → first ≤ m → t ≡ rows_of (m - first) area first → Placed first area area m t
placed_same area first m t f h e = record { fit = f; ahead = h; front = refl; rows = sym e; size = refl }

placed_row : (area area' : List ℕ) (first m : ℕ) (path value : List ℕ) → first ≤ m → length area' ≡ length area → Inserted first m area area' path value
    → Placed first area area' (m + 1) (with_row path value (rows_of (m - first) area first))
placed_row area area' first m path value h l x =
    let p = rows-parts first (m + 1) area area' (with_row path value (rows_of (m - first) area first)) (omega arith) x.rows in
    record { fit = x.fit; ahead = omega arith; front = p.0; rows = p.1; size = l }

-- ONE ENTRY
-- one that is no put
pub after-none : (b : Bool) (prefix : List ℕ) (e : defined.Entry) (t : List Row) → NoPut e → with_entry b prefix e t ≡ t
unfolding with_entry
after-none b prefix (defined.pair k v) t h = refl
after-none b prefix (defined.child i k) t h = refl
after-none b prefix (defined.message (defined.puts k v)) t h = absurd (h k v refl)
after-none b prefix (defined.message (defined.drops k)) t h = refl
after-none b prefix (defined.message (defined.clears k)) t h = refl

module _ (lead : List ℕ) (e : defined.Entry) (es : List defined.Entry) (ok : List ℕ → Bool) (area : List ℕ) (first m : ℕ) (opened : Open area first m ok lead (e ∷ es)) where
  abbrev here : List Row
  here = rows_of (m - first) area first

  abbrev there : List Row
  there = with_entry (decides ok lead e es) lead e here

  pub put-none : NoPut e → Placed first area area m there
  put-none h = placed_same area first m there opened.fit opened.ahead (after-none (decides ok lead e es) lead e here h)

  -- a put
  module _ (k v : List ℕ) (q : e ≡ defined.message (defined.puts k v)) where
    put-there : there ≡ cond (holds_no_message (newest_among es k) && ok (lead ++ k)) (with_row (lead ++ k) v here) here
    unfolding with_entry decides
    put-there = rw q

    pub put-told : (b : Bool) → b ≡ holds_no_message (newest_among es k) → b ≡ false → Placed first area area m there
    put-told b f n = placed_same area first m there opened.fit opened.ahead (put-there ∙ rw (← f, n))

    pub put-hidden : (b : Bool) → b ≡ ok (lead ++ k) → b ≡ false → Placed first area area m there
    put-hidden b f n = placed_same area first m there opened.fit opened.ahead (put-there ∙ rw (← f, n, and-false (holds_no_message (newest_among es k))))

    pub put-absent : find (lead ++ k) here ≡ none
    put-absent = untold-absent lead k v es here (subst (λ x. Untold lead (x ∷ es) here) q opened.untold)

    pub put-value : value_fits v ≡ true
    unfolding entry_value_fits
    put-value = ap entry_value_fits (sym q) ∙ values-first e (e ∷ es) es refl opened.values

    -- it decides its path
    module _ (b c : Bool) (f : b ≡ holds_no_message (newest_among es k)) (n : b ≡ true) (g : c ≡ ok (lead ++ k)) (o : c ≡ true) where
      put_in : there ≡ with_row (lead ++ k) v here
      put_in = put-there ∙ rw (← f, n, ← g, o)

      pub put-room : m * 128 + 128 ≤ length area
      unfolding insert_among
      put-room =
          let a = opened.room in
          let h = opened.ahead in
          let d : length there ≤ length (insert_among ok lead es there) = insert-grows ok lead es there (untold-next ok lead e es here opened.untold) in
          let w : length there ≡ suc (length here) = ap length put_in ∙ with-length (lead ++ k) v here put-absent in
          let l : length here ≡ m - first = rows-length (m - first) area first in
          omega arith

      pub put-placed : (area' : List ℕ) → length area' ≡ length area → Inserted first m area area' (lead ++ k) v → Placed first area area' (m + 1) there
      put-placed area' l x = subst (λ t. Placed first area area' (m + 1) t) (sym put_in) (placed_row area area' first m (lead ++ k) v opened.ahead l x)

-- THE LOOP
pub record Inserting (first : ℕ) (area₀ area : List ℕ) (m : ℕ) (ok : List ℕ → Bool) (prefix : List ℕ) (es : List defined.Entry) (all : List Row) : Type 0 where
  pub opened : Open area first m ok prefix es
  pub whole : insert_among ok prefix es (rows_of (m - first) area first) ≡ all
  pub front : rows_of first area 0 ≡ rows_of first area₀ 0
  pub size : length area ≡ length area₀

module _ (first : ℕ) (area₀ area : List ℕ) (m : ℕ) (ok : List ℕ → Bool) (prefix : List ℕ) (es : List defined.Entry) (all : List Row)
    (a : Inserting first area₀ area m ok prefix es all) where
  pub insert-end : es ≡ [] → Placed first area₀ area m all
  unfolding insert_among
  insert-end q =
      let e : rows_of (m - first) area first ≡ all = rw q at a.whole in
      record { fit = a.opened.fit; ahead = a.opened.ahead; front = a.front; rows = e; size = a.size }

  module _ (e : defined.Entry) (ts : List defined.Entry) (q : es ≡ e ∷ ts) where
    pub insert-open : Open area first m ok prefix (e ∷ ts)
    insert-open = subst (λ l. Open area first m ok prefix l) q a.opened

    pub insert-next : (area' : List ℕ) (r : ℕ) → Placed first area area' r (with_entry (decides ok prefix e ts) prefix e (rows_of (m - first) area first))
        → Inserting first area₀ area' r ok prefix ts all
    insert-next area' r x =
        let o = insert-open in
        let t : List Row = with_entry (decides ok prefix e ts) prefix e (rows_of (m - first) area first) in
        let w : insert_among ok prefix ts (rows_of (r - first) area' first) ≡ insert_among ok prefix (e ∷ ts) (rows_of (m - first) area first) = ap (λ l. insert_among ok prefix ts l) x.rows ∙ folds in
        let h = o.room in
        let s = x.size in
        let l : length (insert_among ok prefix ts (rows_of (r - first) area' first)) ≡ length (insert_among ok prefix (e ∷ ts) (rows_of (m - first) area first)) = ap length w in
        record {
          opened = record {
            fit = x.fit;
            ahead = x.ahead;
            untold = subst (λ u. Untold prefix ts u) (sym x.rows) (untold-next ok prefix e ts (rows_of (m - first) area first) o.untold);
            values = values-later e (e ∷ ts) ts refl o.values;
            room = omega arith;
          };
          whole = w ∙ ap (λ l. insert_among ok prefix l (rows_of (m - first) area first)) (sym q) ∙ a.whole;
          front = x.front ∙ a.front;
          size = x.size ∙ a.size;
        }
      where
        folds : insert_among ok prefix ts (with_entry (decides ok prefix e ts) prefix e (rows_of (m - first) area first)) ≡ insert_among ok prefix (e ∷ ts) (rows_of (m - first) area first)
        folds = unfold insert_among in refl
