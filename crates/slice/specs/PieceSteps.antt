-- Step lemmas of the pages of a right part. Relies on RightLaws and on octets' `put`.
use Rattle.std.specs.Prelude.{ℕ, ◌+◌, ◌*◌, ◌≤◌, ◌≡◌, refl, List, [], ◌∷◌, ◌++◌, Bool, true, false, not, ◌||◌, cond, length, take, drop, eqb, get_or, Option, None, Some, is_some, MatchOption}
use Rattle.image.specs.Prelude.{sym, ap, ap₂, subst, ◌∙◌, append-nil, append_assoc, arith, length-append, take_at, eq-eqb, ne_eqb}
use Rattle.image.specs.Bytes.{shared}
use Rattle.image.specs.Entry as defined
use Rattle.image.specs.Image.{Branch}
use Rattle.octets.specs.Put.{put, put-put}
use Rattle.laws.specs.Encode.{bytes_of, child-size}
use Rattle.laws.specs.Page.{page}
use Rattle.laws.specs.WriteNode.{write_node}
use Rattle.laws.specs.Reading.Relative.{branch_high}
use Rattle.node.specs.Search.Own.{branch}
use Rattle.slice.specs.declared.Parts.{Parts}
use Rattle.slice.specs.Point.{fresh_in}
use Rattle.slice.specs.Right.{edge_piece, rest_piece, pieces_in, PartsFit, has_any, all_line, over_body, two_body, wide_body, with_rest, edge_only, both_told, one_node, head_branch, raise_branches, WideAsks, NarrowAsks}
use Rattle.slice.specs.RightLaws.{all_append, all-long}

-- THE PIECES
module _ (a b d : ℕ) (k out : List ℕ) (p : Parts) where
  pub pieces-line : all_line d (pieces_in a b k out p) ≡ all_line d (edge_piece a k p.edge) ++ all_line d (rest_piece b out p.rest)
  unfolding pieces_in
  pieces-line = all_append d (edge_piece a k p.edge) (rest_piece b out p.rest)

pub edge-yes : (a d : ℕ) (k : List ℕ) (e : Bool) → e ≡ true → all_line d (edge_piece a k e) ≡ bytes_of (defined.child a (drop d k))
unfolding edge_piece all_line
edge-yes a d k e q = rw q (append-nil (bytes_of (defined.child a (drop d k))))

pub edge-no : (a d : ℕ) (k : List ℕ) (e : Bool) → e ≡ false → all_line d (edge_piece a k e) ≡ []
unfolding edge_piece all_line
edge-no a d k e q = rw q

pub rest-yes : (b d : ℕ) (out : List ℕ) (r : Option ℕ) (n : ℕ) → r ≡ Some n → all_line d (rest_piece b out r) ≡ bytes_of (defined.child b (drop d (take n out)))
unfolding rest_piece all_line
rest-yes b d out r n q = rw q (append-nil (bytes_of (defined.child b (drop d (take n out)))))

pub rest-no : (b d : ℕ) (out : List ℕ) (r : Option ℕ) → r ≡ None → all_line d (rest_piece b out r) ≡ []
unfolding rest_piece all_line
rest-no b d out r q = rw q

pub rest-fits : (m n : ℕ) (p : Parts) → p.rest ≡ Some n → PartsFit m p → n ≤ m
rest-fits m n p e h = subst (λ r. MatchOption r Unit (λ i. i ≤ m)) e h

-- one child pushed, its pivot under another name
module _ (now all : List ℕ) (i : ℕ) (x y : List ℕ) (e : all ≡ bytes_of (defined.child i y)) (p : x ≡ y) where
  same-entry : bytes_of (defined.child i x) ≡ all
  same-entry = ap (λ l. bytes_of (defined.child i l)) p ∙ sym e

  pub push-fits : length now + length all ≤ 1016 → length now + length (bytes_of (defined.child i x)) ≤ 1016
  push-fits h = let a = ap length same-entry in omega arith

  pub push-on : (now' : List ℕ) → now' ≡ now ++ bytes_of (defined.child i x) → now' ≡ now ++ all
  push-on now' q = q ∙ ap (λ l. now ++ l) same-entry

pub push-nothing : (now all : List ℕ) → all ≡ [] → now ≡ now ++ all
push-nothing now all e = sym (append-nil now) ∙ ap (λ l. now ++ l) (sym e)

pub push-first : (now all : List ℕ) (i : ℕ) (x y B : List ℕ) → all ≡ bytes_of (defined.child i y) ++ B → x ≡ y → length now + length all ≤ 1016
    → length now + length (bytes_of (defined.child i x)) ≤ 1016
push-first now all i x y B e p h =
    let a = ap length e in
    let b = length-append (bytes_of (defined.child i y)) B in
    let c = ap (λ l. length (bytes_of (defined.child i l))) p in
    omega arith

-- and one behind what is on the page
module _ (now now₁ E all : List ℕ) (i : ℕ) (x y : List ℕ) (f : now₁ ≡ now ++ E) (e : all ≡ E ++ bytes_of (defined.child i y)) (p : x ≡ y) where
  whole : now₁ ++ bytes_of (defined.child i x) ≡ now ++ all
  whole =
      ap₂ (λ l m. l ++ bytes_of (defined.child i m)) f p ∙ append_assoc now E (bytes_of (defined.child i y)) ∙ ap (λ l. now ++ l) (sym e)

  pub push-last : length now + length all ≤ 1016 → length now₁ + length (bytes_of (defined.child i x)) ≤ 1016
  push-last h = let a = ap length whole in let b = length-append now₁ (bytes_of (defined.child i x)) in let c = length-append now all in omega arith

  pub push-behind : (now₂ : List ℕ) → now₂ ≡ now₁ ++ bytes_of (defined.child i x) → now₂ ≡ now ++ all
  push-behind now₂ q = q ∙ whole

-- A NODE, IF THERE ARE ENTRIES
module _ (n h : ℕ) (body s : List ℕ) where
  pub over_none : length body ≡ 0 → s ≡ over_body n h body s
  unfolding over_body
  over_none e = sym (ap (λ b. cond b s (write_node s n (page 2 h body))) (eq-eqb (length body) 0 e))

  pub told_none : length body ≡ 0 → false ≡ not (eqb (length body) 0)
  told_none e = sym (ap not (eq-eqb (length body) 0 e))

  pub over-some : (s' : List ℕ) → (length body ≡ 0 → ⊥) → s' ≡ write_node s n (page 2 h body) → s' ≡ over_body n h body s
  unfolding over_body
  over-some s' e q = q ∙ sym (ap (λ b. cond b s (write_node s n (page 2 h body))) (ne_eqb (length body) 0 e))

  pub told-some : (length body ≡ 0 → ⊥) → true ≡ not (eqb (length body) 0)
  told-some e = sym (ap not (ne_eqb (length body) 0 e))

-- ANSWERS
pub told : (out out₁ out₂ lift pivot : List ℕ) → length lift + length pivot ≤ length out → out₁ ≡ put out 0 lift → out₂ ≡ put out₁ (length lift) pivot
    → take (length lift + length pivot) out₂ ≡ lift ++ pivot
told out out₁ out₂ lift pivot h a b =
    let z : length lift ≡ 0 + length lift = omega arith in
    let e : out₂ ≡ put out 0 (lift ++ pivot) = b ∙ ap₂ (λ o i. put o i pivot) a z ∙ put-put out 0 lift pivot (omega arith) in
    let n = length-append lift pivot in
    ap (take (length lift + length pivot)) e ∙ front n
  where
    front : length (lift ++ pivot) ≡ length lift + length pivot → take (length lift + length pivot) (put out 0 (lift ++ pivot)) ≡ lift ++ pivot
    front n = unfold put in take_at (lift ++ pivot) (drop (0 + length (lift ++ pivot)) out) (length lift + length pivot) n

-- TWO NODES
module _ (size level : ℕ) (rks : List Branch) (hi k : List ℕ) (below : Parts) (out : List ℕ) (at : ℕ) (free : List ℕ)
    (pre : WideAsks size level rks hi k below out at free) (a b d e : ℕ) (ea : a ≡ fresh_in free (at + 2)) (eb : b ≡ fresh_in free (at + 2 + 1)) where
  rest-number : b ≡ fresh_in free (at + 3)
  rest-number = let z : at + 2 + 1 ≡ at + 3 = omega arith in eb ∙ ap (fresh_in free) z

  pub wide-rooms : (n m : ℕ) → n ≡ get_or free at 0 → m ≡ get_or free (at + 1) 0 → (n * 1024 + 1024 ≤ size) × (m * 1024 + 1024 ≤ size)
  unfolding fresh_in
  wide-rooms n m en em = let p = pre.room at (omega arith) in let q = pre.room (at + 1) (omega arith) in (omega arith, omega arith)

  module _ (x : List ℕ) (ex : x ≡ branch_high hi rks) (ed : d ≡ length (shared k x)) where
    d-is : d ≡ length (shared k (branch_high hi rks))
    d-is = ed ∙ ap (λ y. length (shared k y)) ex

    e-is : e ≡ length (shared x hi) → e ≡ length (shared (branch_high hi rks) hi)
    e-is ee = ee ∙ ap (λ y. length (shared y hi)) ex

    edge-line : all_line d (pieces_in a b k out below)
        ≡ all_line (length (shared k (branch_high hi rks))) (pieces_in (fresh_in free (at + 2)) (fresh_in free (at + 3)) k out below)
    edge-line i = all_line (d-is i) (pieces_in (ea i) (rest-number i) k out below)

    pub wide-first : length (all_line d (pieces_in a b k out below)) ≤ 1016
    wide-first = let z = ap length edge-line in let f = pre.edge_fits in omega arith

    pub wide-second : e ≡ length (shared x hi) → length (all_line e rks) ≤ 1016
    wide-second ee = let z = ap (λ n. length (all_line n rks)) (e-is ee) in let f = pre.rest_fits in omega arith

    pub wide-done : e ≡ length (shared x hi) → (n m : ℕ) → n ≡ get_or free at 0 → m ≡ get_or free (at + 1) 0 → (bare p q s s₁ s₂ : List ℕ) → bare ≡ []
        → p ≡ bare ++ all_line d (pieces_in a b k out below) → q ≡ bare ++ all_line e rks → s₁ ≡ over_body n level p s → s₂ ≡ over_body m level q s₁
        → s₂ ≡ wide_body (fresh_in free at) (fresh_in free (at + 1)) level k hi (branch_high hi rks)
        (pieces_in (fresh_in free (at + 2)) (fresh_in free (at + 3)) k out below) rks s
    unfolding two_body wide_body fresh_in
    wide-done ee n m en em bare p q s s₁ s₂ nil ep eq f g =
        let y : p ≡ all_line (length (shared k (branch_high hi rks))) (pieces_in (fresh_in free (at + 2)) (fresh_in free (at + 3)) k out below) =
        ep ∙ ap (λ l. l ++ all_line d (pieces_in a b k out below)) nil ∙ edge-line in
        let z : q ≡ all_line (length (shared (branch_high hi rks) hi)) rks = eq ∙ ap (λ l. l ++ all_line e rks) nil ∙ ap (λ i. all_line i rks) (e-is ee) in
        g ∙ (λ i. over_body (em i) level (z i) ((f ∙ (λ j. over_body (en j) level (y j) s)) i))

-- ONE NODE
module _ (size level : ℕ) (rks : List Branch) (hi k : List ℕ) (below : Parts) (out : List ℕ) (at : ℕ) (free : List ℕ)
    (pre : NarrowAsks size level rks hi k below out at free) (a b d : ℕ)
    (ea : a ≡ fresh_in free (at + 1)) (eb : b ≡ fresh_in free (at + 1 + 1)) (ed : d ≡ length (shared k hi)) where
  last-number : b ≡ fresh_in free (at + 2)
  last-number = let z : at + 1 + 1 ≡ at + 2 = omega arith in eb ∙ ap (fresh_in free) z

  pub narrow-room : (n : ℕ) → n ≡ get_or free at 0 → n * 1024 + 1024 ≤ size
  unfolding fresh_in
  narrow-room n en = let p = pre.room at (omega arith) in omega arith

  narrow-line : all_line d (pieces_in a b k out below) ++ all_line d rks
      ≡ all_line (length (shared k hi)) (pieces_in (fresh_in free (at + 1)) (fresh_in free (at + 2)) k out below ++ rks)
  narrow-line =
      sym (all_append d (pieces_in a b k out below) rks) ∙ (λ i. all_line (ed i) (pieces_in (ea i) (last-number i) k out below ++ rks))

  narrow-fits : length (all_line d (pieces_in a b k out below)) + length (all_line d rks) ≤ 1016
  narrow-fits =
      let z = ap length narrow-line in let y = length-append (all_line d (pieces_in a b k out below)) (all_line d rks) in let f = pre.all_fit in omega arith

  pub narrow-first : length (all_line d (pieces_in a b k out below)) ≤ 1016
  narrow-first = let f = narrow-fits in omega arith

  module _ (bare p : List ℕ) (nil : bare ≡ []) (ep : p ≡ bare ++ all_line d (pieces_in a b k out below)) where
    pub narrow-second : length p + length (all_line d rks) ≤ 1016
    narrow-second = let f = narrow-fits in let x = ap length (ep ∙ ap (λ l. l ++ all_line d (pieces_in a b k out below)) nil) in omega arith

    module _ (q : List ℕ) (eq : q ≡ p ++ all_line d rks) where
      pub narrow-page : q ≡ all_line (length (shared k hi)) (pieces_in (fresh_in free (at + 1)) (fresh_in free (at + 2)) k out below ++ rks)
      narrow-page = eq ∙ ap (λ l. l ++ all_line d rks) (ep ∙ ap (λ l. l ++ all_line d (pieces_in a b k out below)) nil) ∙ narrow-line

      pub narrow-done : (n : ℕ) → n ≡ get_or free at 0 → (s s₁ : List ℕ) → s₁ ≡ over_body n level q s
          → s₁ ≡ over_body (fresh_in free at) level (all_line (length (shared k hi)) (pieces_in (fresh_in free (at + 1)) (fresh_in free (at + 2)) k out below ++ rks)) s
      unfolding fresh_in
      narrow-done n en s s₁ f = f ∙ (λ i. over_body (en i) level (narrow-page i) s)

-- WHETHER THERE ARE ENTRIES
pub one-told : (d : ℕ) (ks : List Branch) (b : Bool) (body : List ℕ) → body ≡ all_line d ks → b ≡ not (eqb (length body) 0)
    → ◌≡◌ {A = Parts} (record { edge = b; rest = None }) (one_node ks)
unfolding one_node
one-told d [] b body e t = let z : b ≡ false = t ∙ ap not (eq-eqb (length body) 0 (ap length e ∙ empty)) in rw z
  where
    empty : length (all_line d []) ≡ 0
    empty = unfold all_line in refl
one-told d (c ∷ cs) b body e t =
    let a = all-long d (c ∷ cs) in
    let l = ap length e in
    let z : b ≡ true = t ∙ ap not (ne_eqb (length body) 0 (λ q. omega arith)) in
    rw z

-- WHAT IS TOLD OF TWO NODES
module _ (hi k : List ℕ) (below : Parts) (out : List ℕ) (at : ℕ) (free lift : List ℕ) where
  abbrev eks : List Branch
  eks = pieces_in (fresh_in free (at + 2)) (fresh_in free (at + 3)) k out below

  edge-told : (out' : List ℕ) (p : Parts) → raise_branches lift (head_branch (fresh_in free at) k (pieces_in (fresh_in free (at + 2)) (fresh_in free (at + 3)) k out p) ++ [])
      ≡ pieces_in (fresh_in free at) (fresh_in free (at + 1)) (lift ++ k) out' (edge_only p)
  unfolding pieces_in edge_piece rest_piece head_branch raise_branches edge_only has_any
  edge-told out' p = go p.edge p.rest
    where
      go : (e : Bool) (r : Option ℕ)
          → raise_branches lift (head_branch (fresh_in free at) k (edge_piece (fresh_in free (at + 2)) k e ++ rest_piece (fresh_in free (at + 3)) out r) ++ [])
          ≡ edge_piece (fresh_in free at) (lift ++ k) (e || is_some r) ++ []
      go true r = refl
      go false None = refl
      go false (Some n) = refl

  rest-told : (x out' : List ℕ) (n : ℕ) (p : Parts) → take n out' ≡ lift ++ x
      → raise_branches lift (head_branch (fresh_in free at) k (pieces_in (fresh_in free (at + 2)) (fresh_in free (at + 3)) k out p) ++ (branch (fresh_in free (at + 1)) x ∷ []))
      ≡ pieces_in (fresh_in free at) (fresh_in free (at + 1)) (lift ++ k) out' (with_rest n p)
  unfolding pieces_in edge_piece rest_piece head_branch raise_branches with_rest has_any
  rest-told x out' n p h = go p.edge p.rest
    where
      go : (e : Bool) (r : Option ℕ)
          → raise_branches lift (head_branch (fresh_in free at) k (edge_piece (fresh_in free (at + 2)) k e ++ rest_piece (fresh_in free (at + 3)) out r)
          ++ (branch (fresh_in free (at + 1)) x ∷ []))
          ≡ edge_piece (fresh_in free at) (lift ++ k) (e || is_some r) ++ (branch (fresh_in free (at + 1)) (take n out') ∷ [])
      go true r = ap (λ l. branch (fresh_in free at) (lift ++ k) ∷ (branch (fresh_in free (at + 1)) l ∷ [])) (sym h)
      go false None = ap (λ l. branch (fresh_in free (at + 1)) l ∷ []) (sym h)
      go false (Some m) = ap (λ l. branch (fresh_in free at) (lift ++ k) ∷ (branch (fresh_in free (at + 1)) l ∷ [])) (sym h)

  edge-fit : (m : ℕ) (p : Parts) → PartsFit m (edge_only p)
  unfolding edge_only
  edge-fit m p = tt

  rest-fit : (m n : ℕ) (p : Parts) → n ≤ m → PartsFit m (with_rest n p)
  unfolding with_rest
  rest-fit m n p h = h

  pub both-pieces : (l : List Branch) (out' : List ℕ) (r : Parts) → both_told l below lift out' r
      → (raise_branches lift (head_branch (fresh_in free at) k (pieces_in (fresh_in free (at + 2)) (fresh_in free (at + 3)) k out below) ++ head_branch (fresh_in free (at + 1)) (branch_high hi l) l)
      ≡ pieces_in (fresh_in free at) (fresh_in free (at + 1)) (lift ++ k) out' r) × PartsFit (length out') r
  unfolding both_told branch_high
  both-pieces [] out' r e = (
    ap (λ l. raise_branches lift (head_branch (fresh_in free at) k eks ++ l)) no-head ∙ edge-told out' below ∙ ap (pieces_in (fresh_in free at) (fresh_in free (at + 1)) (lift ++ k) out') (sym e),
    subst (PartsFit (length out')) (sym e) (edge-fit (length out') below),
  )
    where
      no-head : head_branch (fresh_in free (at + 1)) hi [] ≡ []
      no-head = unfold head_branch in refl
  both-pieces (c ∷ cs) out' r e = (
    ap (λ l. raise_branches lift (head_branch (fresh_in free at) k eks ++ l)) a-head ∙ rest-told c.pivot out' (length lift + length c.pivot) below e.2
        ∙ ap (pieces_in (fresh_in free at) (fresh_in free (at + 1)) (lift ++ k) out') (sym e.0),
    subst (PartsFit (length out')) (sym e.0) (rest-fit (length out') (length lift + length c.pivot) below e.1),
  )
    where
      a-head : head_branch (fresh_in free (at + 1)) c.pivot (c ∷ cs) ≡ branch (fresh_in free (at + 1)) c.pivot ∷ []
      a-head = unfold head_branch in refl

module _ (l : List Branch) (below : Parts) (lift out : List ℕ) (r : Parts) where
  pub told-edge : l ≡ [] → r ≡ edge_only below → both_told l below lift out r
  unfolding both_told
  told-edge none e = subst (λ z. both_told z below lift out r) (sym none) e

  pub told-rest : (c : Branch) (cs : List Branch) → l ≡ c ∷ cs → r ≡ with_rest (length lift + length c.pivot) below → length lift + length c.pivot ≤ length out
      → take (length lift + length c.pivot) out ≡ lift ++ c.pivot → both_told l below lift out r
  unfolding both_told
  told-rest c cs some e h q = subst (λ z. both_told z below lift out r) (sym some) (e, h, q)

pub edge-is : (p : Parts) (b : Bool) → b ≡ has_any p → ◌≡◌ {A = Parts} (record { edge = b; rest = None }) (edge_only p)
unfolding edge_only
edge-is p b e = λ i. record { edge = e i; rest = None }

pub rest-is : (p : Parts) (n : ℕ) (b : Bool) → b ≡ has_any p → ◌≡◌ {A = Parts} (record { edge = b; rest = Some n }) (with_rest n p)
unfolding with_rest
rest-is p n b e = λ i. record { edge = e i; rest = Some n }

-- the first child's pivot is no longer than the entries of all
pub first-short : (l : List Branch) (c : Branch) (cs : List Branch) → l ≡ c ∷ cs → length (all_line 0 l) ≤ 1016 → length c.pivot ≤ 1016
unfolding all_line
first-short l c cs e h =
    let a = ap (λ z. length (all_line 0 z)) e in
    let b = length-append (bytes_of (defined.child c.number c.pivot)) (all_line 0 cs) in
    let f = child-size c.number c.pivot in
    omega arith
