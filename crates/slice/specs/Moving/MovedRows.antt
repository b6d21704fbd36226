-- A move on a table, part by part: the parts that two ranges leave, with the moved rows in their new place.
use Rattle.std.specs.Prelude.{ℕ, ◌≡◌, refl, List, [], ◌∷◌, ◌++◌, Bool, true, false, ◌&&◌, not}
use Rattle.image.specs.Prelude.{sym, ap, ap₂, ◌∙◌, append-nil, append_assoc, cases}
use Rattle.image.specs.Bytes.{same, before, begins}
use Rattle.image.specs.Path.{below, owns, well_formed}
use Rattle.image.specs.Table.{Row, every_key, leads, rising, with_row, rows_below, without_below, renamed, put_all, moved}
use Rattle.octets.specs.Order.{and_left, and_right, not_so, not-true, not-false, same-eq, before-trans, before-le, before-asym, before-not-same, same_turn}
use Rattle.laws.specs.Rising.{both}
use Rattle.laws.specs.LookupTable.{not_low, under-high, does-own}
use Rattle.laws.specs.Filter.{keep, up_to, since, keep_append, keep_all, keep-none, keep-passes, keep-rises, cut-whole, every-imp, rises-all, every_append, not-not, keep-below}
use Rattle.slice.specs.Slicing.Range.{past, before-past, begins-under, formed-low, range-below}
use Rattle.laws.specs.PushDown.{with_second}
use Rattle.octets.specs.Beginnings.{begins-not-before}

-- clear, as a test
pub keep-other : (p : List ℕ) (t : List Row) → without_below p t ≡ keep (λ q. not (begins p q)) t
unfolding without_below keep below
keep-other p [] = refl
keep-other p (r ∷ t) = rw (keep-other p t) (cases (begins p r.key) (λ e. rw e) (λ e. rw e))

with-front : (r : Row) (u : List Row) → every_key (λ k. before r.key k) u ≡ true → with_row r.key r.value u ≡ r ∷ u
unfolding with_row every_key
with-front r [] h = refl
with-front r (q ∷ u) h =
    let e : before r.key q.key ≡ true = and_left _ _ h in
    rw (before-asym r.key q.key e, same_turn q.key r.key (before-not-same r.key q.key e))

put-all-front : (m : List ℕ) (rs u : List Row) → rising rs ≡ true → every_key (up_to m) rs ≡ true → every_key (since m) u ≡ true → put_all rs u ≡ rs ++ u
unfolding put_all rising every_key
put-all-front m [] u a b c = refl
put-all-front m (r ∷ rs) u a b c =
    ap (λ l. with_row r.key r.value l) (put-all-front m rs u (and_right (leads r.key rs) _ a) (and_right (before r.key m) _ b) c)
    ∙ with-front r (rs ++ u)
    (every_append (λ q. before r.key q) rs u (rises-all r.key rs (and_left _ _ a) (and_right (leads r.key rs) _ a))
    (every-imp (since m) (λ q. before r.key q) u (λ q h. before-le r.key m q (and_left _ _ b) (not-true (before q m) h)) c))

put-all-second : (m : List ℕ) (rs t u : List Row) → every_key (since m) rs ≡ true → every_key (up_to m) t ≡ true → put_all rs (t ++ u) ≡ t ++ put_all rs u
unfolding put_all every_key
put-all-second m [] t u a b = refl
put-all-second m (r ∷ rs) t u a b =
    ap (λ l. with_row r.key r.value l) (put-all-second m rs t u (and_right (since m r.key) _ a) b)
    ∙ with_second r.key r.value t (put_all rs u)
    (every-imp (up_to m) (λ q. before q r.key) t (λ q h. before-le q m r.key h (not-true (before r.key m) (and_left _ _ a))) b)

pub put-between : (lo hi : List ℕ) (rs t u : List Row) → rising rs ≡ true → every_key (owns lo hi) rs ≡ true → every_key (up_to lo) t ≡ true → every_key (since hi) u ≡ true
    → put_all rs (t ++ u) ≡ t ++ (rs ++ u)
put-between lo hi rs t u a b c d =
    put-all-second lo rs t u (every-imp (owns lo hi) (since lo) rs (λ q h. not-false (before q lo) (not_low lo hi q h)) b) c
    ∙ ap (λ l. t ++ l) (put-all-front hi rs u a (every-imp (owns lo hi) (up_to hi) rs (λ q h. under-high lo hi q h) b) d)

-- a row put in is there
every-with : (a : List ℕ → Bool) (p v : List ℕ) (t : List Row) → every_key a (with_row p v t) ≡ true → (a p ≡ true) × (every_key a t ≡ true)
unfolding with_row every_key
every-with a p v [] e = (and_left _ _ e, refl)
every-with a p v (r ∷ t) e = go (before r.key p) refl (same p r.key) refl (every-with a p v t)
  where
    go : (x : Bool) → before r.key p ≡ x → (y : Bool) → same p r.key ≡ y
        → (every_key a (with_row p v t) ≡ true → (a p ≡ true) × (every_key a t ≡ true)) → (a p ≡ true) × (a r.key && every_key a t ≡ true)
    go true c y d ih =
        let h : a r.key && every_key a (with_row p v t) ≡ true = rw c at e in
        ((ih (and_right (a r.key) _ h)).0, both (and_left (a r.key) _ h) (ih (and_right (a r.key) _ h)).1)
    go false c true d ih =
        let h : a p && every_key a t ≡ true = rw (c, d) at e in
        (and_left (a p) _ h, both (ap a (sym (same-eq p r.key d)) ∙ and_left (a p) _ h) (and_right (a p) _ h))
    go false c false d ih =
        let h : a p && (a r.key && every_key a t) ≡ true = rw (c, d) at e in
        (and_left (a p) _ h, and_right (a p) _ h)

pub every-put : (a : List ℕ → Bool) (rs t : List Row) → every_key a (put_all rs t) ≡ true → every_key a rs ≡ true
unfolding put_all every_key
every-put a [] t e = refl
every-put a (r ∷ rs) t e =
    both (every-with a r.key r.value (put_all rs t) e).0 (every-put a rs t (every-with a r.key r.value (put_all rs t) e).1)

-- question 9 asks it of the rows set aside
pub renamed-formed : (from to : List ℕ) (t : List Row) → every_key well_formed (moved from to t) ≡ true → every_key well_formed (renamed from to (rows_below from t)) ≡ true
unfolding moved
renamed-formed from to t e = every-put well_formed (renamed from to (rows_below from t)) (without_below to (without_below from t)) e

-- five parts
abbrev five : List Row → List Row → List Row → List Row → List Row → List Row
five a b c d e = (((a ++ b) ++ c) ++ d) ++ e

keep-five : (test : List ℕ → Bool) (a b c d e : List Row) → keep test (five a b c d e) ≡ five (keep test a) (keep test b) (keep test c) (keep test d) (keep test e)
keep-five test a b c d e =
    keep_append test (((a ++ b) ++ c) ++ d) e
    ∙ ap (λ x. x ++ keep test e) (keep_append test ((a ++ b) ++ c) d
    ∙ ap (λ x. x ++ keep test d) (keep_append test (a ++ b) c ∙ ap (λ x. x ++ keep test c) (keep_append test a b)))

-- the rows of a range, none of them below p, or all
abbrev Aside : List ℕ → List Row → Type 0
Aside p t = every_key (λ q. not (begins p q)) t ≡ true

abbrev Under : List ℕ → List Row → Type 0
Under p t = every_key (λ q. begins p q) t ≡ true

aside-left : (p : List ℕ) (t : List Row) → every_key (up_to p) t ≡ true → Aside p t
aside-left p t e = every-imp (up_to p) (λ q. not (begins p q)) t (λ q h. not-false (begins p q) (go q h (begins p q) refl)) e
  where
    go : (q : List ℕ) → before q p ≡ true → (x : Bool) → begins p q ≡ x → begins p q ≡ false
    go q h true c = not_so h (begins-not-before p q c)
    go q h false c = c

both-keys : (a b c : List ℕ → Bool) (t : List Row) → ((q : List ℕ) → a q ≡ true → b q ≡ true → c q ≡ true) → every_key a t ≡ true → every_key b t ≡ true → every_key c t ≡ true
unfolding every_key
both-keys a b c [] h e f = refl
both-keys a b c (r ∷ t) h e f =
    both (h r.key (and_left _ _ e) (and_left _ _ f)) (both-keys a b c t h (and_right (a r.key) _ e) (and_right (b r.key) _ f))

aside-right : (p : List ℕ) (t : List Row) → every_key well_formed t ≡ true → every_key (since (past p)) t ≡ true → Aside p t
aside-right p t w e =
    both-keys well_formed (since (past p)) (λ q. not (begins p q)) t (λ q f h. not-false (begins p q) (go q f (not-true (before q (past p)) h) (begins p q) refl)) w e
  where
    go : (q : List ℕ) → well_formed q ≡ true → before q (past p) ≡ false → (x : Bool) → begins p q ≡ x → begins p q ≡ false
    go q f h true c = not_so (begins-under p q (formed-low q f) c) h
    go q f h false c = c

under-range : (p : List ℕ) (t : List Row) → every_key (since p) t ≡ true → every_key (up_to (past p)) t ≡ true → Under p t
under-range p t e f =
    both-keys (since p) (up_to (past p)) (λ q. begins p q) t (λ q a b. range-below p q (does-own p (past p) q (not-true (before q p) a) b)) e f

-- a later cut, an earlier cut
up-on : (a b : List ℕ) (t : List Row) → before a b ≡ true → every_key (up_to a) t ≡ true → every_key (up_to b) t ≡ true
up-on a b t lt e = every-imp (up_to a) (up_to b) t (λ q h. before-trans q a b h lt) e

since-back : (a b : List ℕ) (t : List Row) → before a b ≡ true → every_key (since b) t ≡ true → every_key (since a) t ≡ true
since-back a b t lt e = every-imp (since b) (since a) t (λ q h. not-false (before q a) (go q (not-true (before q b) h) (before q a) refl)) e
  where
    go : (q : List ℕ) → before q b ≡ false → (x : Bool) → before q a ≡ x → before q a ≡ false
    go q h true c = not_so (before-trans q a b c lt) h
    go q h false c = c

kept : (a : List ℕ → Bool) (test : List ℕ → Bool) (t : List Row) → every_key a t ≡ true → every_key a (keep test t) ≡ true
kept a test t e = keep-passes a test a t (λ q h k. h) e

every_true : (t : List Row) → every_key (λ q. true) t ≡ true
unfolding every_key
every_true [] = refl
every_true (r ∷ t) = every_true t

passed : (test : List ℕ → Bool) (t : List Row) → every_key test (keep test t) ≡ true
passed test t = keep-passes (λ q. true) test test t (λ q h k. k) (every_true t)

-- The parts of a table by the ranges of p and, after it, of r.
abbrev pub part_c : List ℕ → List ℕ → List Row → List Row
part_c p r t = keep (since (past r)) t

abbrev pub part_r : List ℕ → List ℕ → List Row → List Row
part_r p r t = keep (since r) (keep (up_to (past r)) t)

abbrev pub part_b : List ℕ → List ℕ → List Row → List Row
part_b p r t = keep (since (past p)) (keep (up_to r) (keep (up_to (past r)) t))

abbrev pub part_p : List ℕ → List ℕ → List Row → List Row
part_p p r t = keep (since p) (keep (up_to (past p)) (keep (up_to r) (keep (up_to (past r)) t)))

abbrev pub part_a : List ℕ → List ℕ → List Row → List Row
part_a p r t = keep (up_to p) (keep (up_to (past p)) (keep (up_to r) (keep (up_to (past r)) t)))

-- what is below p goes, or stays alone
gone : (p : List ℕ) (t : List Row) → Under p t → keep (λ q. not (begins p q)) t ≡ []
gone p t u = keep-none (λ q. not (begins p q)) t (every-imp (λ q. begins p q) (λ q. not (not (begins p q))) t (λ q h. not-not (begins p q) h) u)

stays : (p : List ℕ) (t : List Row) → Aside p t → keep (λ q. not (begins p q)) t ≡ t
stays p t a = keep_all (λ q. not (begins p q)) t a

five-path : {a a' b b' c c' d d' e e' : List Row} → a ≡ a' → b ≡ b' → c ≡ c' → d ≡ d' → e ≡ e' → five a b c d e ≡ five a' b' c' d' e'
five-path p q r s t = λ i. five (p i) (q i) (r i) (s i) (t i)

module _ (p r : List ℕ) (W : List Row) (lt : before (past p) r ≡ true) (rises : rising W ≡ true) (formed : every_key well_formed W ≡ true) where
  abbrev A : List Row
  A = part_a p r W

  abbrev rows_p : List Row
  rows_p = part_p p r W

  abbrev B : List Row
  B = part_b p r W

  abbrev R : List Row
  R = part_r p r W

  abbrev C : List Row
  C = part_c p r W

  whole : five A rows_p B R C ≡ W
  whole =
      let w1 : List Row = keep (up_to (past r)) W in
      let w2 : List Row = keep (up_to r) w1 in
      let w3 : List Row = keep (up_to (past p)) w2 in
      let r1 : rising w1 ≡ true = keep-rises (up_to (past r)) W rises in
      let r2 : rising w2 ≡ true = keep-rises (up_to r) w1 r1 in
      let r3 : rising w3 ≡ true = keep-rises (up_to (past p)) w2 r2 in
      ap (λ x. ((x ++ keep (since (past p)) w2) ++ keep (since r) w1) ++ keep (since (past r)) W) (cut-whole p w3 r3)
      ∙ ap (λ x. (x ++ keep (since r) w1) ++ keep (since (past r)) W) (cut-whole (past p) w2 r2)
      ∙ ap (λ x. x ++ keep (since (past r)) W) (cut-whole r w1 r1)
      ∙ cut-whole (past r) W rises

  p-r : before p r ≡ true
  p-r = before-trans p (past p) r (before-past p) lt

  formed-b : every_key well_formed B ≡ true
  formed-b = kept well_formed (since (past p)) _ (kept well_formed (up_to r) _ (kept well_formed (up_to (past r)) W formed))

  formed-r : every_key well_formed R ≡ true
  formed-r = kept well_formed (since r) _ (kept well_formed (up_to (past r)) W formed)

  formed-c : every_key well_formed C ≡ true
  formed-c = kept well_formed (since (past r)) W formed

  up-a : every_key (up_to p) A ≡ true
  up-a = passed (up_to p) _

  since-p : every_key (since p) rows_p ≡ true
  since-p = passed (since p) _

  up-p : every_key (up_to (past p)) rows_p ≡ true
  up-p = kept (up_to (past p)) (since p) _ (passed (up_to (past p)) _)

  since-b : every_key (since (past p)) B ≡ true
  since-b = passed (since (past p)) _

  up-b : every_key (up_to r) B ≡ true
  up-b = kept (up_to r) (since (past p)) _ (passed (up_to r) _)

  since-r : every_key (since r) R ≡ true
  since-r = passed (since r) _

  up-r : every_key (up_to (past r)) R ≡ true
  up-r = kept (up_to (past r)) (since r) _ (passed (up_to (past r)) _)

  since-c : every_key (since (past r)) C ≡ true
  since-c = passed (since (past r)) W

  since-c-p : every_key (since (past p)) C ≡ true
  since-c-p = since-back (past p) (past r) C (before-trans (past p) r (past r) lt (before-past r)) since-c

  pub below-p : rows_below p W ≡ rows_p
  below-p =
      keep-below p W ∙ ap (keep (λ q. begins p q)) (sym whole) ∙ keep-five (λ q. begins p q) A rows_p B R C
      ∙ five-path (keep-none (λ q. begins p q) A (aside-left p A up-a)) (keep_all (λ q. begins p q) rows_p (under-range p rows_p since-p up-p))
      (keep-none (λ q. begins p q) B (aside-right p B formed-b since-b)) (keep-none (λ q. begins p q) R (aside-right p R formed-r (since-back (past p) r R lt since-r)))
      (keep-none (λ q. begins p q) C (aside-right p C formed-c since-c-p))
      ∙ append-nil _ ∙ append-nil _ ∙ append-nil _

  pub below-r : rows_below r W ≡ R
  below-r =
      keep-below r W ∙ ap (keep (λ q. begins r q)) (sym whole) ∙ keep-five (λ q. begins r q) A rows_p B R C
      ∙ five-path (keep-none (λ q. begins r q) A (aside-left r A (up-on p r A p-r up-a))) (keep-none (λ q. begins r q) rows_p (aside-left r rows_p (up-on (past p) r rows_p lt up-p)))
      (keep-none (λ q. begins r q) B (aside-left r B up-b)) (keep_all (λ q. begins r q) R (under-range r R since-r up-r))
      (keep-none (λ q. begins r q) C (aside-right r C formed-c since-c))
      ∙ append-nil _

  left-p : (d : List Row) → Aside p d → without_below p (five A rows_p B d C) ≡ five A [] B d C
  left-p d a =
      keep-other p (five A rows_p B d C) ∙ keep-five (λ q. not (begins p q)) A rows_p B d C
      ∙ five-path (stays p A (aside-left p A up-a)) (gone p rows_p (under-range p rows_p since-p up-p)) (stays p B (aside-right p B formed-b since-b)) (stays p d a)
      (stays p C (aside-right p C formed-c since-c-p))

  left-r : (b : List Row) → Aside r b → without_below r (five A b B R C) ≡ five A b B [] C
  left-r b a =
      keep-other r (five A b B R C) ∙ keep-five (λ q. not (begins r q)) A b B R C
      ∙ five-path (stays r A (aside-left r A (up-on p r A p-r up-a))) (stays r b a) (stays r B (aside-left r B up-b)) (gone r R (under-range r R since-r up-r))
      (stays r C (aside-right r C formed-c since-c))

  nil-aside : (x : List ℕ) → Aside x []
  unfolding every_key
  nil-aside x = refl

  none_between : five A [] B [] C ≡ A ++ (B ++ C)
  none_between = rw (append-nil A, append-nil (A ++ B)) (append_assoc A B C)

  left-p-r : without_below r (without_below p W) ≡ A ++ (B ++ C)
  left-p-r =
      ap (λ x. without_below r (without_below p x)) (sym whole)
      ∙ ap (without_below r) (left-p R (aside-right p R formed-r (since-back (past p) r R lt since-r)))
      ∙ left-r [] (nil-aside r) ∙ none_between

  left-r-p : without_below p (without_below r W) ≡ A ++ (B ++ C)
  left-r-p =
      ap (λ x. without_below p (without_below r x)) (sym whole)
      ∙ ap (without_below p) (left-r rows_p (aside-left r rows_p (up-on (past p) r rows_p lt up-p)))
      ∙ left-p [] (nil-aside p) ∙ none_between

  -- a move to the right, and one to the left
  pub moved_up : rising (renamed p r (part_p p r W)) ≡ true → every_key (owns r (past r)) (renamed p r (part_p p r W)) ≡ true
      → moved p r W ≡ part_a p r W ++ (part_b p r W ++ (renamed p r (part_p p r W) ++ part_c p r W))
  unfolding moved
  moved_up e o =
      ap₂ (λ x y. put_all (renamed p r x) y) below-p (left-p-r ∙ sym (append_assoc A B C))
      ∙ put-between r (past r) (renamed p r rows_p) (A ++ B) C e o (every_append (up_to r) A B (up-on p r A p-r up-a) up-b) since-c
      ∙ append_assoc A B (renamed p r rows_p ++ C)

  pub moved_down : rising (renamed r p (part_r p r W)) ≡ true → every_key (owns p (past p)) (renamed r p (part_r p r W)) ≡ true
      → moved r p W ≡ part_a p r W ++ (renamed r p (part_r p r W) ++ (part_b p r W ++ part_c p r W))
  unfolding moved
  moved_down e o =
      ap₂ (λ x y. put_all (renamed r p x) y) below-r left-r-p
      ∙ put-between p (past p) (renamed r p R) A (B ++ C) e o up-a (every_append (since (past p)) B C since-b since-c-p)
