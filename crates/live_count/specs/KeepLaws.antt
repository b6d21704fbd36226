-- The rows that pass a test, of a table that messages have changed: a put comes in if its path passes, and of the other rows those stay that
-- no message says anything of. Relies on the laws of tables (laws: Tables, Rising, RowsRising, LookupTable, Filter).
use Rattle.std.specs.Prelude.{ℕ, suc, ◌≡◌, refl, List, [], ◌∷◌, ◌++◌, Bool, true, false, ◌&&◌, not, cond, length, drop}
use Rattle.image.specs.Prelude.{sym, ap, ap₂, ◌∙◌, true≢false, and-true, Option, none, some, arith}
use Rattle.image.specs.Bytes.{same, before, begins, shared}
use Rattle.image.specs.Path.{owns, below}
use Rattle.image.specs.Entry.{Message, puts, drops, clears}
use Rattle.image.specs.Table.{Row, find, with_row, without, without_below, every_key, leads, rising}
use Rattle.image.specs.Meaning.{Said, nothing, says, says_of, newer, newest, apply, apply_all}
use Rattle.image.specs.Sound.{sound_message, sound_messages}
use Rattle.octets.specs.Order.{and-false, and_left, and_right, same-eq, same_refl, same-append, begins-append, begins-split, before-not-same, before-asym, before-total, before-trans}
use Rattle.laws.specs.Tables.{find-fails, find-no, find-yes}
use Rattle.laws.specs.Rising.{both, find-leads}
use Rattle.laws.specs.RowsRising.{every-key, is_true, rising-apply}
use Rattle.laws.specs.LookupTable.{apply-none}
use Rattle.laws.specs.Filter.{keep, keep-passes, owned-begins, every-imp}
use Rattle.live_count.specs.Live.{holds_no_message}

-- two tests that agree on every key keep the same rows
pub keep-ext : (a b g : List ℕ → Bool) (t : List Row) → every_key g t ≡ true → ((q : List ℕ) → g q ≡ true → a q ≡ b q) → keep a t ≡ keep b t
unfolding keep every_key
keep-ext a b g [] e h = refl
keep-ext a b g (r ∷ t) e h =
    ap₂ (λ x l. cond x (r ∷ l) (keep a t)) (h r.key (and_left _ _ e)) (keep-ext a b g t (and_right (g r.key) _ e) h)
    ∙ ap (λ l. cond (b r.key) (r ∷ keep b t) l) (keep-ext a b g t (and_right (g r.key) _ e) h)

-- ONE ROW PUT INTO A TABLE
pub with-length : (p v : List ℕ) (t : List Row) → find p t ≡ none → length (with_row p v t) ≡ suc (length t)
unfolding with_row
with-length p v [] e = refl
with-length p v (r ∷ t) e = go (before r.key p) refl (same p r.key) refl (with-length p v t)
  where
    go : (x : Bool) → before r.key p ≡ x → (y : Bool) → same p r.key ≡ y → (find p t ≡ none → length (with_row p v t) ≡ suc (length t))
        → length (cond (before r.key p) (r ∷ with_row p v t) (cond (same p r.key) (record { key = p; value = v } ∷ t) (record { key = p; value = v } ∷ r ∷ t)))
        ≡ suc (suc (length t))
    go x b true s ih = let z : some r.value ≡ none = sym (find-yes p r t s) ∙ e in let o : ◌≡◌ {A = ℕ} 0 1 = cc in absurd (omega arith)
    go true b false s ih = rw b (ap suc (ih (sym (find-no p r t s) ∙ e)))
    go false b false s ih = rw (b, s)

all_after : (p : List ℕ) (t : List Row) → rising t ≡ true → leads p t ≡ true → every_key (λ k. before p k) t ≡ true
unfolding every_key leads rising
all_after p [] e f = refl
all_after p (r ∷ t) e f =
    both f (all_after p t (and_right (leads r.key t) _ e) (further t (and_left (leads r.key t) _ e)))
  where
    further : (u : List Row) → leads r.key u ≡ true → leads p u ≡ true
    further [] g = unfold leads in refl
    further (q ∷ u) g = unfold leads in before-trans p r.key q.key f g

with-front : (p v : List ℕ) (t : List Row) → every_key (λ k. before p k) t ≡ true → with_row p v t ≡ record { key = p; value = v } ∷ t
unfolding every_key with_row
with-front p v [] e = refl
with-front p v (r ∷ t) e =
    let a : before p r.key ≡ true = and_left (before p r.key) _ e in
    rw (before-asym p r.key a, differ (same p r.key) refl a)
  where
    differ : (x : Bool) → same p r.key ≡ x → before p r.key ≡ true → same p r.key ≡ false
    differ false s b = s
    differ true s b =
        let z : p ≡ r.key = same-eq p r.key s in
        let w : same p p ≡ false = before-not-same p p (rw (← z) at b) in
        absurd (true≢false (sym (same_refl p) ∙ w))

-- a path before every key is none of them
never : (p : List ℕ) (t : List Row) → rising t ≡ true → leads p t ≡ true → every_key (λ q. not (same p q)) t ≡ true
never p t e f = every-key (λ q. not (same p q)) t (λ q n. rw (← same-eq p q (is_true (same p q) n)) (find-leads p t e f))

and-not : (x y : Bool) → not y ≡ true → x && not y ≡ x
and-not true y e = e
and-not false y e = refl

-- the test, but for one path
abbrev pub sparing : (List ℕ → Bool) → List ℕ → List ℕ → Bool
sparing test p q = test q && not (same p q)

-- THE ROWS KEPT OF A TABLE THAT A PUT, A DROP OR A CLEAR HAS CHANGED
module _ (test : List ℕ → Bool) (p v : List ℕ) where
  abbrev row : Row
  row = record { key = p; value = v }

  -- a row in front of rows that are all greater
  kept-front : (t : List Row) → every_key (λ k. before p k) t ≡ true → every_key (λ q. not (same p q)) t ≡ true
      → keep test (row ∷ t) ≡ cond (test p) (with_row p v (keep (sparing test p) t)) (keep (sparing test p) t)
  unfolding keep
  kept-front t e f =
      let s : keep test t ≡ keep (sparing test p) t = keep-ext test (sparing test p) (λ q. not (same p q)) t f (λ q n. sym (and-not (test q) (same p q) n)) in
      let a : every_key (λ k. before p k) (keep (sparing test p) t) ≡ true = keep-passes (λ k. before p k) (sparing test p) (λ k. before p k) t (λ q b c. b) e in
      ap (λ l. cond (test p) (row ∷ l) l) s ∙ ap (λ l. cond (test p) l (keep (sparing test p) t)) (sym (with-front p v (keep (sparing test p) t) a))

  -- a row that comes before the path
  kept-past : (r : Row) (K L : List Row) → before r.key p ≡ true → L ≡ cond (test p) (with_row p v K) K
      → r ∷ L ≡ cond (test p) (with_row p v (r ∷ K)) (r ∷ K)
  unfolding with_row
  kept-past r K L b e = go (test p) refl
    where
      go : (x : Bool) → test p ≡ x → r ∷ L ≡ cond (test p) (with_row p v (r ∷ K)) (r ∷ K)
      go true f = rw (e, f, b)
      go false f = rw (e, f)

  pub keep-with : (t : List Row) → rising t ≡ true
      → keep test (with_row p v t) ≡ cond (test p) (with_row p v (keep (sparing test p) t)) (keep (sparing test p) t)
  unfolding with_row rising
  keep-with [] e = unfold keep in refl
  keep-with (r ∷ t) e = go (before r.key p) refl (same p r.key) refl (keep-with t (and_right (leads r.key t) _ e))
    where
      go : (x : Bool) → before r.key p ≡ x → (y : Bool) → same p r.key ≡ y
          → keep test (with_row p v t) ≡ cond (test p) (with_row p v (keep (sparing test p) t)) (keep (sparing test p) t)
          → keep test (cond (before r.key p) (r ∷ with_row p v t) (cond (same p r.key) (row ∷ t) (row ∷ r ∷ t)))
          ≡ cond (test p) (with_row p v (keep (sparing test p) (r ∷ t))) (keep (sparing test p) (r ∷ t))
      go true b y s ih = past (test r.key) refl
        where
          apart : same p r.key ≡ false
          apart = before-not-same r.key p b

          past : (z : Bool) → test r.key ≡ z → keep test (cond (before r.key p) (r ∷ with_row p v t) (cond (same p r.key) (row ∷ t) (row ∷ r ∷ t)))
              ≡ cond (test p) (with_row p v (keep (sparing test p) (r ∷ t))) (keep (sparing test p) (r ∷ t))
          past true g = unfold keep in rw (b, g, apart) (kept-past r (keep (sparing test p) t) (keep test (with_row p v t)) b ih)
          past false g = unfold keep in rw (b, g) ih
      go false b true s ih =
          let z : p ≡ r.key = same-eq p r.key s in
          let l : leads p t ≡ true = rw z (and_left (leads r.key t) (rising t) e) in
          let u : rising t ≡ true = and_right (leads r.key t) (rising t) e in
          rw (b, s) (kept-front t (all_after p t u l) (never p t u l) ∙ ap (λ k. cond (test p) (with_row p v k) k) (sym spared))
        where
          spared : keep (sparing test p) (r ∷ t) ≡ keep (sparing test p) t
          spared = unfold keep in rw (s, and-false (test r.key))
      go false b false s ih =
          let l : leads p (r ∷ t) ≡ true = unfold leads in before-total p r.key s b in
          rw (b, s) (kept-front (r ∷ t) (all_after p (r ∷ t) e l) (never p (r ∷ t) e l))

pub keep-without : (test : List ℕ → Bool) (p : List ℕ) (t : List Row) → keep test (without p t) ≡ keep (λ q. test q && not (same p q)) t
unfolding without keep
keep-without test p [] = refl
keep-without test p (r ∷ t) = go (same p r.key) refl (test r.key) refl (keep-without test p t)
  where
    go : (x : Bool) → same p r.key ≡ x → (y : Bool) → test r.key ≡ y → keep test (without p t) ≡ keep (λ q. test q && not (same p q)) t
        → keep test (without p (r ∷ t)) ≡ keep (λ q. test q && not (same p q)) (r ∷ t)
    go true e true f ih = rw (e, f) ih
    go true e false f ih = rw (e, f) ih
    go false e true f ih = rw (e, f) (ap (λ l. r ∷ l) ih)
    go false e false f ih = rw (e, f) ih

pub keep_cleared : (test : List ℕ → Bool) (p : List ℕ) (t : List Row) → keep test (without_below p t) ≡ keep (λ q. test q && not (begins p q)) t
unfolding without_below keep below
keep_cleared test p [] = refl
keep_cleared test p (r ∷ t) = go (begins p r.key) refl (test r.key) refl (keep_cleared test p t)
  where
    go : (x : Bool) → begins p r.key ≡ x → (y : Bool) → test r.key ≡ y → keep test (without_below p t) ≡ keep (λ q. test q && not (begins p q)) t
        → keep test (without_below p (r ∷ t)) ≡ keep (λ q. test q && not (begins p q)) (r ∷ t)
    go true e true f ih = rw (e, f) ih
    go true e false f ih = rw (e, f) ih
    go false e true f ih = rw (e, f) (ap (λ l. r ∷ l) ih)
    go false e false f ih = rw (e, f) ih

-- ONE MESSAGE: what it brings by itself, and what it leaves of the table
unfoldable pub added : (List ℕ → Bool) → List ℕ → Message → List Row → List Row
added test prefix (puts s v) t = cond (test (prefix ++ s)) (with_row (prefix ++ s) v t) t
added test prefix (drops s) t = t
added test prefix (clears s) t = t

named : (prefix s q : List ℕ) → begins prefix q ≡ true → same (prefix ++ s) q ≡ same s (drop (length prefix) q)
named prefix s q b = ap (λ z. same (prefix ++ s) z) (sym (begins-split prefix q b)) ∙ same-append prefix s (drop (length prefix) q)

cleared : (prefix s q : List ℕ) → begins prefix q ≡ true → begins (prefix ++ s) q ≡ begins s (drop (length prefix) q)
cleared prefix s q b = ap (λ z. begins (prefix ++ s) z) (sym (begins-split prefix q b)) ∙ begins-append prefix s (drop (length prefix) q)

quiet-says : (b : Bool) (v : Option (List ℕ)) → holds_no_message (cond b (says v) nothing) ≡ not b
unfolding holds_no_message
quiet-says true v = refl
quiet-says false v = refl

pub quiet_put : (s v r : List ℕ) → holds_no_message (says_of (puts s v) r) ≡ not (same s r)
unfolding says_of
quiet_put s v r = quiet-says (same s r) (some v)

quiet-drop : (s r : List ℕ) → holds_no_message (says_of (drops s) r) ≡ not (same s r)
unfolding says_of
quiet-drop s r = quiet-says (same s r) none

quiet-clear : (s r : List ℕ) → holds_no_message (says_of (clears s) r) ≡ not (begins s r)
unfolding says_of
quiet-clear s r = quiet-says (begins s r) none

pub message-keep : (test : List ℕ → Bool) (prefix : List ℕ) (m : Message) (t : List Row) → rising t ≡ true → every_key (λ q. begins prefix q) t ≡ true
    → keep test (apply prefix m t) ≡ added test prefix m (keep (λ q. test q && holds_no_message (says_of m (drop (length prefix) q))) t)
unfolding apply added
message-keep test prefix (puts s v) t e g =
    keep-with test (prefix ++ s) v t e
    ∙ ap (λ l. cond (test (prefix ++ s)) (with_row (prefix ++ s) v l) l)
    (keep-ext _ _ (λ q. begins prefix q) t g (λ q b. ap (λ x. test q && x) (ap not (named prefix s q b) ∙ sym (quiet_put s v (drop (length prefix) q)))))
message-keep test prefix (drops s) t e g =
    keep-without test (prefix ++ s) t
    ∙ keep-ext _ _ (λ q. begins prefix q) t g (λ q b. ap (λ x. test q && x) (ap not (named prefix s q b) ∙ sym (quiet-drop s (drop (length prefix) q))))
message-keep test prefix (clears s) t e g =
    keep_cleared test (prefix ++ s) t
    ∙ keep-ext _ _ (λ q. begins prefix q) t g (λ q b. ap (λ x. test q && x) (ap not (cleared prefix s q b) ∙ sym (quiet-clear s (drop (length prefix) q))))

-- ALL THE MESSAGES OF A NODE: the puts that pass and of which no later message says anything, put into the table one after the other
unfoldable pub insert_puts : (List ℕ → Bool) → List ℕ → List Message → List Row → List Row
insert_puts ok prefix [] t = t
insert_puts ok prefix (m ∷ ms) t = insert_puts ok prefix ms (added (λ q. ok q && holds_no_message (newest ms (drop (length prefix) q))) prefix m t)

pub quiet-newer : (x : Bool) (a b : Said) → x && holds_no_message b && holds_no_message a ≡ x && holds_no_message (newer a b)
unfolding holds_no_message newer
quiet-newer true nothing nothing = refl
quiet-newer true nothing (says v) = refl
quiet-newer true (says u) nothing = refl
quiet-newer true (says u) (says v) = refl
quiet-newer false a b = refl

pub owned-apply : (lo hi : List ℕ) (m : Message) (t : List Row) → sound_message lo hi m ≡ true → every_key (owns lo hi) t ≡ true
    → every_key (owns lo hi) (apply (shared lo hi) m t) ≡ true
owned-apply lo hi m t h e =
    every-key (owns lo hi) (apply (shared lo hi) m t) (λ q n. apply-none lo hi q m t h n (find-fails (owns lo hi) q t e n))

pub all-begin : (lo hi : List ℕ) (t : List Row) → every_key (owns lo hi) t ≡ true → every_key (λ q. begins (shared lo hi) q) t ≡ true
all-begin lo hi t e = every-imp (owns lo hi) (λ q. begins (shared lo hi) q) t (λ q o. owned-begins lo hi q o) e

-- a test, and what no message says of a path: none at all, and one more
pub newest-nil : (b : Bool) (q : List ℕ) → b ≡ b && holds_no_message (newest [] q)
unfolding holds_no_message newest
newest-nil b q = sym (and-true b)

pub newest-cons : (b : Bool) (m : Message) (ms : List Message) (q : List ℕ) → b && holds_no_message (newest ms q) && holds_no_message (says_of m q) ≡ b && holds_no_message (newest (m ∷ ms) q)
unfolding newest
newest-cons b m ms q = quiet-newer b (says_of m q) (newest ms q)

pub messages-keep : (ok : List ℕ → Bool) (lo hi : List ℕ) (ms : List Message) (t : List Row) → sound_messages lo hi ms ≡ true → rising t ≡ true
    → every_key (owns lo hi) t ≡ true → keep ok (apply_all (shared lo hi) ms t)
    ≡ insert_puts ok (shared lo hi) ms (keep (λ q. ok q && holds_no_message (newest ms (drop (length (shared lo hi)) q))) t)
unfolding apply_all sound_messages insert_puts
messages-keep ok lo hi [] t h e o = keep-ext ok _ (owns lo hi) t o (λ q n. newest-nil (ok q) (drop (length (shared lo hi)) q))
messages-keep ok lo hi (m ∷ ms) t h e o =
    let prefix : List ℕ = shared lo hi in
    let first : sound_message lo hi m ≡ true = and_left _ _ h in
    messages-keep ok lo hi ms (apply prefix m t) (and_right (sound_message lo hi m) _ h) (rising-apply prefix m t e) (owned-apply lo hi m t first o)
    ∙ ap (λ l. insert_puts ok prefix ms l)
    (message-keep (λ q. ok q && holds_no_message (newest ms (drop (length prefix) q))) prefix m t e (all-begin lo hi t o)
    ∙ ap (λ l. added (λ q. ok q && holds_no_message (newest ms (drop (length prefix) q))) prefix m l) (keep-ext _ _ (owns lo hi) t o (λ q n. newest-cons (ok q) m ms (drop (length prefix) q))))
