-- The steps of the puts that go into the rows of the root's children: an entry by its kind, one put, and the loop over the entries.
-- Relies on what set_row promises (specs/Insertion: Laid) and on the laws of tables.
use Rattle.std.specs.Prelude.{ℕ, ◌*◌, ◌≤◌, ◌≡◌, refl, List, [], ◌∷◌, ◌++◌, Bool, true, false, ◌&&◌, length}
use Rattle.image.specs.Prelude.{sym, ap, subst, ◌∙◌, arith, leb-true}
use Rattle.image.specs.Bytes.{same, before}
use Rattle.image.specs.Path.{path_limit, value_fits}
use Rattle.image.specs.Entry as defined
use Rattle.image.specs.Table.{Row, with_row, every_key}
use Rattle.octets.specs.Order.{and_left, and_right, same-eq}
use Rattle.laws.specs.Rising.{both}
use Rattle.std.specs.Borrow.{Bor}
use Rattle.node.specs.Lent.{entry_is}
use Rattle.node.specs.declared.entries.Message.{Message}
use Rattle.node.specs.declared.entries.Entry.{Entry}
use Rattle.live_count.specs.Notes.Notes.{NoPut}
use Rattle.live_count.specs.Live.{short}
use Rattle.dump.specs.Insertion.Insertion.{Laid, laid}
use Rattle.dump.specs.Insertion.Merge.{with-more}
use Rattle.dump.specs.Dump.{with_entry}
use Rattle.dump.specs.AppendSteps.{value-short}
use Rattle.dump.specs.InsertSteps.{after-none}
use Rattle.dump.specs.Replacing.{keeps_rows, only_puts, put_among, put_fits, puts_fit, Unset}

-- WHETHER ENTRIES TAKE ROWS AWAY
-- the loop: whether the entries left take no row away is whether all take none
pub keeps-end : (es : List defined.Entry) (answer : Bool) → es ≡ [] → only_puts es ≡ answer → true ≡ answer
unfolding only_puts
keeps-end es answer q inv = rw q at inv

module _ (e : Entry) (es ts : List defined.Entry) (answer : Bool) (q : es ≡ entry_is e ∷ ts) (inv : only_puts es ≡ answer) where
  first-keeps : keeps_rows (entry_is e) && only_puts ts ≡ answer
  unfolding only_puts
  first-keeps = rw q at inv

  pub other-keeps : ((m : Message) → e ≡ Entry.Message m → ⊥) → only_puts ts ≡ answer
  other-keeps h = go e h first-keeps
    where
      go : (e : Entry) → ((m : Message) → e ≡ Entry.Message m → ⊥) → keeps_rows (entry_is e) && only_puts ts ≡ answer → only_puts ts ≡ answer
      go (Entry.Pair k v) h x = unfold keeps_rows in x
      go (Entry.Child i k) h x = unfold keeps_rows in x
      go (Entry.Message m) h x = absurd (h m refl)

  module _ (m : Message) (f : e ≡ Entry.Message m) where
    pub put-keeps : (k v : Bor (List ℕ)) → m ≡ Message.Put k v → only_puts ts ≡ answer
    unfolding keeps_rows
    put-keeps k v g = rw (f, g) at first-keeps

    pub taken : ((k v : Bor (List ℕ)) → m ≡ Message.Put k v → ⊥) → false ≡ answer
    taken h = go m h (rw f at first-keeps)
      where
        go : (m : Message) → ((k v : Bor (List ℕ)) → m ≡ Message.Put k v → ⊥) → keeps_rows (entry_is (Entry.Message m)) && only_puts ts ≡ answer → false ≡ answer
        go (Message.Put k v) h x = absurd (h k v refl)
        go (Message.Drop k) h x = unfold keeps_rows in x
        go (Message.Clear k) h x = unfold keeps_rows in x

-- THE ROWS AND THEIR PATHS BECOME NO FEWER
entry_more : (prefix : List ℕ) (e : defined.Entry) (t : List Row) → length t ≤ length (with_entry true prefix e t)
unfolding with_entry
entry_more prefix (defined.pair k v) t = omega arith
entry_more prefix (defined.child i k) t = omega arith
entry_more prefix (defined.message (defined.puts k v)) t = with-more (prefix ++ k) v t
entry_more prefix (defined.message (defined.drops k)) t = omega arith
entry_more prefix (defined.message (defined.clears k)) t = omega arith

pub puts-more : (prefix : List ℕ) (es : List defined.Entry) (t : List Row) → length t ≤ length (put_among prefix es t)
unfolding put_among
puts-more prefix [] t = omega arith
puts-more prefix (e ∷ es) t = let a = entry_more prefix e t in let b = puts-more prefix es (with_entry true prefix e t) in omega arith

with-passed : (test : List ℕ → Bool) (p v : List ℕ) (t : List Row) → every_key test (with_row p v t) ≡ true → every_key test t ≡ true
unfolding every_key with_row
with-passed test p v [] e = refl
with-passed test p v (r ∷ t) e = go (before r.key p) refl (same p r.key) refl (with-passed test p v t)
  where
    go : (x : Bool) → before r.key p ≡ x → (y : Bool) → same p r.key ≡ y → (every_key test (with_row p v t) ≡ true → every_key test t ≡ true)
        → test r.key && every_key test t ≡ true
    go true a y b ih =
        let f : test r.key && every_key test (with_row p v t) ≡ true = rw a at e in
        both (and_left (test r.key) (every_key test (with_row p v t)) f) (ih (and_right (test r.key) (every_key test (with_row p v t)) f))
    go false a true b ih =
        let f : test p && every_key test t ≡ true = rw (a, b) at e in
        both (ap test (sym (same-eq p r.key b)) ∙ and_left (test p) (every_key test t) f) (and_right (test p) (every_key test t) f)
    go false a false b ih =
        let f : test p && (test r.key && every_key test t) ≡ true = rw (a, b) at e in
        and_right (test p) (test r.key && every_key test t) f

entry-passed : (test : List ℕ → Bool) (prefix : List ℕ) (e : defined.Entry) (t : List Row) → every_key test (with_entry true prefix e t) ≡ true → every_key test t ≡ true
unfolding with_entry
entry-passed test prefix (defined.pair k v) t h = h
entry-passed test prefix (defined.child i k) t h = h
entry-passed test prefix (defined.message (defined.puts k v)) t h = with-passed test (prefix ++ k) v t h
entry-passed test prefix (defined.message (defined.drops k)) t h = h
entry-passed test prefix (defined.message (defined.clears k)) t h = h

pub puts-passed : (test : List ℕ → Bool) (prefix : List ℕ) (es : List defined.Entry) (t : List Row) → every_key test (put_among prefix es t) ≡ true → every_key test t ≡ true
unfolding put_among
puts-passed test prefix [] t h = h
puts-passed test prefix (e ∷ es) t h = entry-passed test prefix e t (puts-passed test prefix es (with_entry true prefix e t) h)

-- THE LOOP
pub record Setting (m : ℕ) (area₀ area : List ℕ) (all : ℕ) (es : List defined.Entry) (t : List Row) : Type 0 where
  pub unset : Unset area m all es
  pub table : put_among [] es (laid area m all) ≡ t
  pub size : length area ≡ length area₀

module _ (m : ℕ) (area₀ area : List ℕ) (all : ℕ) (es : List defined.Entry) (t : List Row) (a : Setting m area₀ area all es t) where
  pub setting-end : es ≡ [] → Laid m area₀ area all t
  unfolding put_among
  setting-end q = let e : laid area m all ≡ t = rw q at a.table in record { apart = a.unset.apart; table = e; size = a.size }

  module _ (e : defined.Entry) (ts : List defined.Entry) (q : es ≡ e ∷ ts) where
    this-unset : Unset area m all (e ∷ ts)
    this-unset = subst (λ l. Unset area m all l) q a.unset

    now-table : put_among [] ts (with_entry true [] e (laid area m all)) ≡ t
    unfolding put_among
    now-table = ap (λ l. put_among [] l (laid area m all)) (sym q) ∙ a.table

    later-fits : puts_fit [] ts ≡ true
    unfolding puts_fit
    later-fits = and_right (put_fits [] e) _ this-unset.fits

    -- no put
    pub setting-past : NoPut e → Setting m area₀ area all ts t
    unfolding put_among
    setting-past h =
        let u = this-unset in
        let w : with_entry true [] e (laid area m all) ≡ laid area m all = after-none true [] e (laid area m all) h in
        let r : 128 * length (put_among [] ts (with_entry true [] e (laid area m all))) ≤ length area = u.room in
        record {
          unset = record { apart = u.apart; fits = later-fits; room = rw w at r };
          table = ap (put_among [] ts) (sym w) ∙ now-table;
          size = a.size;
        }

    -- a put
    module _ (k v : List ℕ) (f : e ≡ defined.message (defined.puts k v)) where
      pub put-path : length k ≤ 64
      unfolding puts_fit put_fits short
      put-path = let z : put_fits [] (defined.message (defined.puts k v)) ≡ true = ap (put_fits []) (sym f) ∙ and_left _ _ this-unset.fits in leb-true (length k) path_limit (and_left _ _ z)

      pub put-value : length v ≤ 60
      unfolding puts_fit put_fits
      put-value =
          let z : put_fits [] (defined.message (defined.puts k v)) ≡ true = ap (put_fits []) (sym f) ∙ and_left _ _ this-unset.fits in
          value-short v (and_right (short k) (value_fits v) z)

      set : with_entry true [] e (laid area m all) ≡ with_row k v (laid area m all)
      unfolding with_entry
      set = rw f

      pub put-room : 128 * length (with_row k v (laid area m all)) ≤ length area
      unfolding put_among
      put-room =
          let r : 128 * length (put_among [] ts (with_entry true [] e (laid area m all))) ≤ length area = this-unset.room in
          let l = puts-more [] ts (with_entry true [] e (laid area m all)) in
          let z = ap length set in
          omega arith

      pub setting-next : (area' : List ℕ) (r : ℕ) → Laid m area area' r (with_row k v (laid area m all)) → Setting m area₀ area' r ts t
      unfolding put_among
      setting-next area' r x =
          let h : 128 * length (put_among [] ts (with_entry true [] e (laid area m all))) ≤ length area = this-unset.room in
          let w : put_among [] ts (laid area' m r) ≡ put_among [] ts (with_entry true [] e (laid area m all)) = ap (put_among [] ts) (x.table ∙ sym set) in
          let l : length (put_among [] ts (laid area' m r)) ≡ length (put_among [] ts (with_entry true [] e (laid area m all))) = ap length w in
          let z = x.size in
          record { unset = record { apart = x.apart; fits = later-fits; room = omega arith }; table = w ∙ now-table; size = x.size ∙ a.size }
