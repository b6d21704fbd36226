-- Step lemmas of the functions on one note: what each exit owes.
use Rattle.std.specs.Prelude.{ℕ, zero, suc, ◌+◌, ◌<◌, ◌≤◌, ◌≡◌, refl, List, [], ◌∷◌, ◌++◌, Bool, true, false, ◌&&◌, not, cond, length, drop, take, set, leb, eqb}
use Rattle.image.specs.Prelude.{sym, ap, ap₂, ◌∙◌, true≢false, false≢true, arith, Option, none, some, eqb-true, length-drop, add-one, take-suc-set, leb-true, leb-false}
use Rattle.image.specs.Bytes.{same, before, begins, shared}
use Rattle.image.specs.Meaning.{nothing, says, says_of}
use Rattle.image.specs.Path.{owns}
use Rattle.octets.specs.Order.{and-false, not_so, same-eq, same_false, before-le, before-total, before-asym, between-begins, begins-trans, begins-append, same-append}
use Rattle.octets.specs.Beginnings.{begins-refl, begins-length, shared-right, shared-most, begins-not-before}
use Rattle.laws.specs.LookupTable.{not_low, under-high}
use Rattle.std.proofs.Math.Bool.{beq}
use Rattle.std.specs.Borrow.{Bor}
use Rattle.node.specs.Lent.{entry_is}
use Rattle.node.specs.Search.Latest.{entry_says, covers}
use Rattle.node.specs.declared.entries.Entry.{Entry}
use Rattle.node.specs.declared.entries.Message.{Message}
use Rattle.live_count.specs.declared.notes.Note.{Note}
use Rattle.live_count.specs.declared.notes.Keys.{Keys}
use Rattle.live_count.specs.Notes.Notes.{on, note_covers, Misses, Unconcerned, Uncovered, Same}

-- two strings that differ in a byte of both
pub differ-begins : (x w k : List ℕ) → length (shared x w) < length x → length (shared x w) < length w → begins x (w ++ k) ≡ false
unfolding shared begins
differ-begins [] w k a b = absurd (omega arith)
differ-begins (p ∷ x) [] k a b = absurd (omega arith)
differ-begins (p ∷ x) (q ∷ w) k a b = go (eqb p q) refl (differ-begins x w k)
  where
    go : (t : Bool) → eqb p q ≡ t → (length (shared x w) < length x → length (shared x w) < length w → begins x (w ++ k) ≡ false)
        → eqb p q && begins x (w ++ k) ≡ false
    go true e ih =
        let c : length (cond (eqb p q) (p ∷ shared x w) []) < length (p ∷ x) = a in
        let d : length (cond (eqb p q) (p ∷ shared x w) []) < length (q ∷ w) = b in
        let f : length (p ∷ shared x w) < length (p ∷ x) = rw e at c in
        let g : length (p ∷ shared x w) < length (q ∷ w) = rw e at d in
        rw e (ih (omega arith) (omega arith))
    go false e ih = rw e

begins-of-same : (x r : List ℕ) → begins x r ≡ false → same x r ≡ false
unfolding begins same
begins-of-same [] r e = absurd (true≢false e)
begins-of-same (a ∷ x) [] e = refl
begins-of-same (a ∷ x) (b ∷ r) e = go (eqb a b) refl (begins-of-same x r)
  where
    go : (t : Bool) → eqb a b ≡ t → (begins x r ≡ false → same x r ≡ false) → eqb a b && same x r ≡ false
    go true f ih = rw f (ih (rw f at e))
    go false f ih = rw f

-- what is no beginning of a rest is not on it
pub off : (c : Bool) (x r : List ℕ) → begins x r ≡ false → on c x r ≡ false
unfolding on
off true x r e = e
off false x r e = begins-of-same x r e

pub on-clear : (c : Bool) (x r : List ℕ) → c ≡ true → on c x r ≡ begins x r
unfolding on
on-clear c x r e = rw e

pub on-name : (c : Bool) (x r : List ℕ) → c ≡ false → on c x r ≡ same x r
unfolding on
on-name c x r e = rw e

shorter-same : (x w k : List ℕ) → length x < length w → same x (w ++ k) ≡ false
unfolding same
shorter-same x [] k l = absurd (omega arith)
shorter-same [] (b ∷ w) k l = refl
shorter-same (a ∷ x) (b ∷ w) k l = rw (shorter-same x w k (omega arith), and-false (eqb a b))

-- as long a common beginning as x itself
shared-whole : (x w k : List ℕ) → length x ≤ length (shared x w) → begins x (w ++ k) ≡ true
unfolding shared begins
shared-whole [] w k l = refl
shared-whole (a ∷ x) [] k l = absurd (omega arith)
shared-whole (a ∷ x) (b ∷ w) k l = go (eqb a b) refl (shared-whole x w k)
  where
    go : (t : Bool) → eqb a b ≡ t → (length x ≤ length (shared x w) → begins x (w ++ k) ≡ true) → eqb a b && begins x (w ++ k) ≡ true
    go true e ih =
        let c : length (a ∷ x) ≤ length (cond (eqb a b) (a ∷ shared x w) []) = l in
        let f : length (a ∷ x) ≤ length (a ∷ shared x w) = rw e at c in
        rw e (ih (omega arith))
    go false e ih =
        let c : length (a ∷ x) ≤ length (cond (eqb a b) (a ∷ shared x w) []) = l in
        let f : length (a ∷ x) ≤ 0 = rw e at c in
        absurd (omega arith)

-- as long a common beginning as w: x goes on after w
past-whole : (x w : List ℕ) → length w ≤ length (shared x w) → x ≡ w ++ drop (length w) x
unfolding shared
past-whole x [] l = refl
past-whole [] (b ∷ w) l = absurd (omega arith)
past-whole (a ∷ x) (b ∷ w) l = go (eqb a b) refl (past-whole x w)
  where
    go : (t : Bool) → eqb a b ≡ t → (length w ≤ length (shared x w) → x ≡ w ++ drop (length w) x) → a ∷ x ≡ b ∷ (w ++ drop (length w) x)
    go true e ih =
        let c : length (b ∷ w) ≤ length (cond (eqb a b) (a ∷ shared x w) []) = l in
        let f : length (b ∷ w) ≤ length (a ∷ shared x w) = rw e at c in
        ap₂ (λ y z. y ∷ z) (eqb-true a b e) (ih (omega arith))
    go false e ih =
        let c : length (b ∷ w) ≤ length (cond (eqb a b) (a ∷ shared x w) []) = l in
        let f : length (b ∷ w) ≤ 0 = rw e at c in
        absurd (omega arith)

on-append : (c : Bool) (w y k : List ℕ) → on c (w ++ y) (w ++ k) ≡ on c y k
unfolding on
on-append true w y k = begins-append w y k
on-append false w y k = same-append w y k

-- on a key from lo up to hi: so it comes before hi
too-high : (c : Bool) (y lo hi k : List ℕ) → before y hi ≡ false → owns lo hi k ≡ true → on c y k ≡ false
too-high c y lo hi k h o = off c y k (go (begins y k) refl)
  where
    go : (t : Bool) → begins y k ≡ t → begins y k ≡ false
    go false e = e
    go true e = not_so (before-le k hi y (under-high lo hi k o) h) (begins-not-before y k e)

-- what comes before lo and does not begin lo begins no key from lo up: such a key would have lo between its beginning and itself
low-begins : (y lo k : List ℕ) → before y lo ≡ true → begins y lo ≡ false → before k lo ≡ false → begins y k ≡ false
low-begins y lo k h n u = go (begins y k) (same lo k) refl refl
  where
    go : (t d : Bool) → begins y k ≡ t → same lo k ≡ d → begins y k ≡ false
    go false d e f = e
    go true true e f = rw (← same-eq lo k f) n
    go true false e f =
        not_so (begins-trans y (shared y k) lo (shared-most y y k (begins-refl y) e) (between-begins y k lo (before-asym y lo h) (before-total lo k f u))) n

-- a beginning, compared as a whole with as much of the key
begins-same : (x key : List ℕ) (n : ℕ) → n ≡ length x → n ≤ length key → begins x key ≡ same x (take n key)
unfolding begins same
begins-same [] key n e l = rw e
begins-same (a ∷ x) [] n e l = absurd (omega arith)
begins-same (a ∷ x) (b ∷ key) zero e l = absurd (omega arith)
begins-same (a ∷ x) (b ∷ key) (suc n) e l = ap (λ z. eqb a b && z) (begins-same x key n (omega arith) (omega arith))

begins-longer : (x key : List ℕ) → length key < length x → begins x key ≡ false
begins-longer x key l = go (begins x key) refl
  where
    go : (t : Bool) → begins x key ≡ t → begins x key ≡ false
    go false e = e
    go true e = let z = begins-length x key e in absurd (omega arith)

-- the ways out of covers
module _ (v : Note) (key : List ℕ) where
  pub name-covers : (r : Bool) → v.clears ≡ false → r ≡ same v.path.now key → r ≡ note_covers v key
  name-covers r c h = h ∙ sym (on-name v.clears v.path.now key c)

  pub short-covers : v.clears ≡ true → length key < length v.path.now → false ≡ note_covers v key
  short-covers c l = sym (on-clear v.clears v.path.now key c ∙ begins-longer v.path.now key l)

  pub clear-covers : (r : Bool) → v.clears ≡ true → length v.path.now ≤ length key → r ≡ same v.path.now (take (length v.path.now) key) → r ≡ note_covers v key
  clear-covers r c l h = h ∙ sym (begins-same v.path.now key (length v.path.now) refl l) ∙ sym (on-clear v.clears v.path.now key c)

-- what clears the beginning with no bytes
empty-begins : (x k : List ℕ) → length x ≡ 0 → begins x k ≡ true
unfolding begins
empty-begins [] k h = refl
empty-begins (a ∷ x) k h = absurd (omega arith)

pub all-covered : (v : Note) → v.clears ≡ true → length v.path.now ≡ 0 → (k : List ℕ) → note_covers v k ≡ true
all-covered v c e k = on-clear v.clears v.path.now k c ∙ empty-begins v.path.now k e

-- two notes of one kind on the same bytes
pub like-told : (u v : Note) → u.clears ≡ v.clears → same u.path.now v.path.now ≡ true → (k : List ℕ) → note_covers u k ≡ note_covers v k
like-told u v c e k = ap₂ (λ x y. on x y k) c (same-eq u.path.now v.path.now e)

-- the ways out of stand_above
module _ (y : List ℕ) (c : Bool) (lo : List ℕ) where
  pub misses-by : (r : Bool) → (r ≡ true → before y lo ≡ true) → (r ≡ true → c ≡ true → begins y lo ≡ false) → Misses y c lo r
  unfolding Misses
  misses-by r b n = λ t k u. go c refl t k u
    where
      go : (d : Bool) → c ≡ d → r ≡ true → (k : List ℕ) → before k lo ≡ false → on c y k ≡ false
      go true e t k u = on-clear c y k e ∙ low-begins y lo k (b t) (n t e) u
      go false e t k u = on-name c y k e ∙ same_false y k (λ z. not_so {A = ⊥} (rw (← z) (b t)) u)

-- the ways out of narrow
module _ (n : Note) (w : Keys) (k : ℕ) (e : k ≡ length (shared n.path.now w.after.now)) where
  module _ (m : k < length w.after.now) where
    pub all-cleared : (x : List ℕ) → x ≡ drop k n.path.now → n.clears ≡ true → length x ≡ 0 → k ≤ length n.path.now
        → (q : List ℕ) → owns w.low.now w.high.now q ≡ true → note_covers n (w.after.now ++ q) ≡ on n.clears x q
    all-cleared x p t z b = λ q o.
        let l : length (drop k n.path.now) ≡ 0 = sym (ap length p) ∙ z in
        let s = length-drop k n.path.now in
        on-clear n.clears n.path.now (w.after.now ++ q) t ∙ shared-whole n.path.now w.after.now q (omega arith)
        ∙ sym (on-clear n.clears x q t ∙ empty-begins x q z)

    pub apart : (n.clears ≡ true → k < length n.path.now) → Unconcerned n w
    apart h = λ q o. go n.clears refl q
      where
        go : (d : Bool) → n.clears ≡ d → (q : List ℕ) → note_covers n (w.after.now ++ q) ≡ false
        go true c q = off n.clears n.path.now (w.after.now ++ q) (differ-begins n.path.now w.after.now q (let g = h c in omega arith) (omega arith))
        go false c q = on-name n.clears n.path.now (w.after.now ++ q) c ∙ other q
          where
            other : (q : List ℕ) → same n.path.now (w.after.now ++ q) ≡ false
            other q = differs (leb (length n.path.now) k) refl
              where
                differs : (x : Bool) → leb (length n.path.now) k ≡ x → same n.path.now (w.after.now ++ q) ≡ false
                differs true f = let l = leb-true (length n.path.now) k f in shorter-same n.path.now w.after.now q (omega arith)
                differs false f =
                    let l = leb-false (length n.path.now) k f in
                    begins-of-same n.path.now (w.after.now ++ q) (differ-begins n.path.now w.after.now q (omega arith) (omega arith))

  module _ (m : length w.after.now ≤ k) (b : k ≤ length n.path.now) where
    rest : (q : List ℕ) → note_covers n (w.after.now ++ q) ≡ on n.clears (drop k n.path.now) q
    rest q =
        let g : length (shared n.path.now w.after.now) ≤ length w.after.now = begins-length (shared n.path.now w.after.now) w.after.now (shared-right n.path.now w.after.now) in
        let z : length w.after.now ≡ k = omega arith in
        let x : n.path.now ≡ w.after.now ++ drop k n.path.now = past-whole n.path.now w.after.now (omega arith) ∙ ap (λ i. w.after.now ++ drop i n.path.now) z in
        ap (λ y. on n.clears y (w.after.now ++ q)) x ∙ on-append n.clears w.after.now (drop k n.path.now) q

    pub high-off : before (drop k n.path.now) w.high.now ≡ false → Unconcerned n w
    high-off h = λ q o. rest q ∙ too-high n.clears (drop k n.path.now) w.low.now w.high.now q h o

    pub low-off : (r : Bool) → Misses (drop k n.path.now) n.clears w.low.now r → r ≡ true → Unconcerned n w
    unfolding Misses
    low-off r f t = λ q o. rest q ∙ f t q (not_low w.low.now w.high.now q o)

    pub told : (x : List ℕ) → x ≡ drop k n.path.now → (q : List ℕ) → owns w.low.now w.high.now q ≡ true → note_covers n (w.after.now ++ q) ≡ on n.clears x q
    told x p = λ q o. rest q ∙ ap (λ y. on n.clears y q) (sym p)

-- the note of an entry
said-or-not : (b : Bool) (x : Option (List ℕ)) → covers (cond b (says x) nothing) ≡ b
unfolding covers
said-or-not true x = refl
said-or-not false x = refl

pub unnoted : (e : Entry) → ((m : Message) → e ≡ Entry.Message m → ⊥) → Uncovered (entry_is e)
unfolding entry_says covers
unnoted (Entry.Pair k v) h = λ r. refl
unnoted (Entry.Child i k) h = λ r. refl
unnoted (Entry.Message m) h = absurd (h m refl)

module _ (e : Entry) (m : Message) (q : e ≡ Entry.Message m) where
  pub put-noted : (k v : Bor (List ℕ)) (n : Note) → m ≡ Message.Put k v → n ≡ record { clears = false; path = k } → Same (entry_is e) n
  unfolding on entry_says says_of
  put-noted k v n f g = λ r. rw (q, f, g) (ap not (said-or-not (same k.now r) (some v.now)))

  pub drop-noted : (k : Bor (List ℕ)) (n : Note) → m ≡ Message.Drop k → n ≡ record { clears = false; path = k } → Same (entry_is e) n
  unfolding on entry_says says_of
  drop-noted k n f g = λ r. rw (q, f, g) (ap not (said-or-not (same k.now r) none))

  pub clear-noted : (k : Bor (List ℕ)) (n : Note) → m ≡ Message.Clear k → n ≡ record { clears = true; path = k } → Same (entry_is e) n
  unfolding on entry_says says_of
  clear-noted k n f g = λ r. rw (q, f, g) (ap not (said-or-not (begins k.now r) none))

-- what is written behind the first n
pub take-pushed : {X : Type 0} (xs : List X) (n : ℕ) (x : X) → n < length xs → take (n + 1) (set xs n x) ≡ take n xs ++ x ∷ []
take-pushed xs n x h = ap (λ i. take i (set xs n x)) (add-one n) ∙ take-suc-set xs n x h

pub beq-true : (a b : Bool) → beq a b ≡ true → a ≡ b
beq-true true true e = refl
beq-true true false e = absurd (false≢true e)
beq-true false true e = absurd (false≢true e)
beq-true false false e = refl
