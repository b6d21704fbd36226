-- The quick yes of question 9: where `to` has no more components and no more bytes than `from`, every rest that follows `from` follows `to`.
-- Relies on path/specs/Shape.
use Rattle.std.specs.Prelude.{ℕ, suc, ◌≤◌, ◌<◌, ◌≡◌, refl, List, [], ◌∷◌, Bool, true, false, ◌&&◌, length, drop, leb, ltb, eqb}
use Rattle.image.specs.Prelude.{sym, ap, ◌∙◌, append-nil, false≢true, arith, le-leb, leb-true, lt-ltb, ltb-true, eqb-true}
use Rattle.image.specs.Bytes.{begins}
use Rattle.image.specs.Path.{letter, path_limit, well_formed}
use Rattle.image.specs.Table.{Row, every_key}
use Rattle.octets.specs.Order.{and_left, and_right, begins-split}
use Rattle.laws.specs.Rising.{both}
use Rattle.laws.specs.Filter.{keep-passes, keep-below}
use Rattle.path.specs.Shape.{Shape, dead, partway, fresh, fed, feed, closed, goes_on, shape-is}
use Rattle.rename.specs.Asks.Judge.{rest_fits, rests_fit}

-- the second shape has no more components and no more bytes than the first
unfoldable pub no_wider : Shape → Shape → Bool
no_wider dead b = false
no_wider (partway done here len) dead = false
no_wider (partway done here len) (partway count tail size) = leb count done && leb size len

feed-dead : (p : List ℕ) → closed (feed dead p) ≡ true → ⊥
unfolding feed fed closed
feed-dead [] e = false≢true e
feed-dead (b ∷ p) e = feed-dead p e

fewer : (done here len count size : ℕ) (p : List ℕ) → 1 ≤ count → count ≤ done → size ≤ len → closed (feed (partway done here len) p) ≡ true
    → closed (feed (partway count here size) p) ≡ true
unfolding feed
fewer done here len count size [] a b c e = fewer-end
  where
    fewer-end : closed (partway count here size) ≡ true
    fewer-end =
        unfold closed in
        let s : len ≤ path_limit = leb-true len path_limit (and_left _ _ e) in
        let r : leb 1 done && leb done 8 && eqb here 0 ≡ true = and_right (leb len path_limit) _ e in
        let d : done ≤ 8 = leb-true done 8 (and_right (leb 1 done) _ (and_left _ _ r)) in
        both (le-leb size path_limit (omega arith)) (both (both (le-leb 1 count a) (le-leb count 8 (omega arith))) (and_right (leb 1 done && leb done 8) _ r))
fewer done here len count size (x ∷ p) a b c e =
    go (ltb len path_limit) refl (eqb x 0) refl (leb 1 here && leb here 16) refl (ltb done 8) refl (letter x && ltb here 16) refl
    (fewer (suc done) 0 (suc len) (suc count) (suc size) p (omega arith) (omega arith) (omega arith))
    (fewer done (suc here) (suc len) count (suc size) p a b (omega arith))
  where
    go : (l : Bool) → ltb len path_limit ≡ l → (z : Bool) → eqb x 0 ≡ z → (y : Bool) → leb 1 here && leb here 16 ≡ y → (d : Bool) → ltb done 8 ≡ d
        → (w : Bool) → letter x && ltb here 16 ≡ w
        → (closed (feed (partway (suc done) 0 (suc len)) p) ≡ true → closed (feed (partway (suc count) 0 (suc size)) p) ≡ true)
        → (closed (feed (partway done (suc here) (suc len)) p) ≡ true → closed (feed (partway count (suc here) (suc size)) p) ≡ true)
        → closed (feed (fed (partway count here size) x) p) ≡ true
    go false h z q y f d g w k u v = absurd (feed-dead p (unfold fed in rw h at e))
    go true h true q false f d g w k u v = absurd (feed-dead p (unfold fed in rw (h, q, f) at e))
    go true h true q true f false g w k u v = absurd (feed-dead p (unfold fed in rw (h, q, f, g) at e))
    go true h true q true f true g w k u v =
        unfold fed in
        let s : ltb size path_limit ≡ true = lt-ltb size path_limit (let m : len < path_limit = ltb-true len path_limit h in omega arith) in
        let t : ltb count 8 ≡ true = lt-ltb count 8 (let m : done < 8 = ltb-true done 8 g in omega arith) in
        rw (s, q, f, t) (u (unfold fed in rw (h, q, f, g) at e))
    go true h false q y f d g false k u v = absurd (feed-dead p (unfold fed in rw (h, q, k) at e))
    go true h false q y f d g true k u v =
        unfold fed in
        let s : ltb size path_limit ≡ true = lt-ltb size path_limit (let m : len < path_limit = ltb-true len path_limit h in omega arith) in
        rw (s, q, k) (v (unfold fed in rw (h, q, k) at e))

dead-shut : closed dead ≡ true → ⊥
unfolding closed
dead-shut e = false≢true e

-- from a whole path on
shorter : (a b : Shape) (p : List ℕ) → closed a ≡ true → closed b ≡ true → no_wider a b ≡ true → closed (feed a p) ≡ true → closed (feed b p) ≡ true
shorter dead b p e f h g = absurd (dead-shut e)
shorter (partway done here len) dead p e f h g = absurd (dead-shut f)
shorter (partway done here len) (partway count tail size) p e f h g =
    let x : here ≡ 0 = (whole done here len e).1 in
    let y : (1 ≤ count) × (tail ≡ 0) = whole count tail size f in
    let z : (count ≤ done) × (size ≤ len) = less h in
    let k : closed (feed (partway count here size) p) ≡ true = fewer done here len count size p y.0 z.0 z.1 g in
    let w : here ≡ tail = omega (arith, y.1) in
    ap (λ n. closed (feed (partway count n size) p)) (sym w) ∙ k
  where
    whole : (d n l : ℕ) → closed (partway d n l) ≡ true → (1 ≤ d) × (n ≡ 0)
    whole d n l q =
        let r : leb 1 d && leb d 8 && eqb n 0 ≡ true = unfold closed in and_right (leb l path_limit) _ q in
        (leb-true 1 d (and_left (leb 1 d) (leb d 8) (and_left (leb 1 d && leb d 8) (eqb n 0) r)), eqb-true n 0 (and_right (leb 1 d && leb d 8) _ r))

    less : no_wider (partway done here len) (partway count tail size) ≡ true → (count ≤ done) × (size ≤ len)
    less q =
        let r : leb count done && leb size len ≡ true = unfold no_wider in q in
        (leb-true count done (and_left _ _ r), leb-true size len (and_right (leb count done) _ r))

shut : (p : List ℕ) → well_formed p ≡ true → closed (feed fresh p) ≡ true
unfolding goes_on feed
shut p f = shape-is p [] ∙ ap well_formed (append-nil p) ∙ f

-- THE QUICK YES
pub quick-yes : (from to : List ℕ) (t : List Row) → well_formed from ≡ true → well_formed to ≡ true → every_key well_formed t ≡ true
    → no_wider (feed fresh from) (feed fresh to) ≡ true → rests_fit (feed fresh to) from t ≡ true
unfolding rests_fit
quick-yes from to t a b e h =
    rw (keep-below from t) (keep-passes well_formed (λ q. begins from q) (rest_fits (feed fresh to) (length from)) t each e)
  where
    each : (q : List ℕ) → well_formed q ≡ true → begins from q ≡ true → rest_fits (feed fresh to) (length from) q ≡ true
    each q f g = unfold rest_fits in on-rest (drop (length from) q) (shape-is from (drop (length from) q) ∙ ap well_formed (begins-split from q g) ∙ f)
      where
        on-rest : (x : List ℕ) → goes_on (feed fresh from) x ≡ true → goes_on (feed fresh to) x ≡ true
        on-rest x k = unfold goes_on in shorter (feed fresh from) (feed fresh to) x (shut from a) (shut to b) h k
