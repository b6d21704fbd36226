-- Step lemmas of the joining: two neighbours, and the search for the first two that one node holds.
use Rattle.std.specs.Prelude.{ℕ, ◌≤◌, ◌≡◌, refl, List, [], ◌∷◌, Bool, true, false, cond, length}
use Rattle.image.specs.Prelude.{sym, ap, ◌∙◌, arith, length-append}
use Rattle.image.specs.Entry as defined
use Rattle.image.specs.Image.{Branch}
use Rattle.laws.specs.Encode.{bytes_of, bytes_of_all, child-size}
use Rattle.laws.specs.Reading.Relative.{branch_high}
use Rattle.node.specs.Search.Own.{branch, branches_among}
use Rattle.push.specs.Laws.Written.{child_bytes}
use Rattle.merge.specs.Laws.Joined.{pair_fits, left_written, node_without, pair_joined, joined_if, first_joined, any_fits}
use Rattle.merge.specs.Room.{Room}

pub room-stays : (s s' : List ℕ) (n level : ℕ) (es : List defined.Entry) → length s' ≡ length s → Room s n level es → Room s' n level es
room-stays s s' n level es e r = let g = r.inside in record { inside = omega arith; low = r.low; small = r.small; fits = r.fits }

-- the entries of the children alone are no longer than all
pub children-light : (es : List defined.Entry) → length (child_bytes (branches_among es)) ≤ length (bytes_of_all es)
unfolding child_bytes branches_among bytes_of_all
children-light [] = omega arith
children-light (defined.pair k v ∷ es) = omega arith
children-light (defined.child i k ∷ es) =
    let a = children-light es in
    let b = length-append (bytes_of (defined.child i k)) (child_bytes (branches_among es)) in
    let c = length-append (bytes_of (defined.child i k)) (bytes_of_all es) in
    omega arith
children-light (defined.message m ∷ es) = omega arith

-- so each pivot is short
pub pivot-short : (ks us : List Branch) (i : ℕ) (lo : List ℕ) → ks ≡ branch i lo ∷ us → length (child_bytes ks) ≤ 1016 → (length lo ≤ 1016) × (length (child_bytes us) ≤ 1016)
unfolding child_bytes
pivot-short ks us i lo q h =
    let a = ap (λ l. length (child_bytes l)) q in
    let b = length-append (bytes_of (defined.child i lo)) (child_bytes us) in
    let c = child-size i lo in
    (omega arith, omega arith)

-- TWO NEIGHBOURS
module _ (n level : ℕ) (es : List defined.Entry) (a b : ℕ) (lo mid hi s : List ℕ) where
  pub not-joined : false ≡ pair_fits s a b lo mid hi → (s ≡ joined_if n level es a b lo mid hi s) × (false ≡ pair_fits s a b lo mid hi)
  unfolding joined_if
  not-joined h = (ap (λ x. cond x (pair_joined n level es a b lo mid hi s) s) h, h)

  pub are-joined : true ≡ pair_fits s a b lo mid hi → (s₁ s₂ : List ℕ) → s₁ ≡ left_written s a b lo mid hi → s₂ ≡ node_without s₁ n level b es
      → (s₂ ≡ joined_if n level es a b lo mid hi s) × (true ≡ pair_fits s a b lo mid hi)
  unfolding joined_if pair_joined
  are-joined h s₁ s₂ e f = (f ∙ ap (λ t. node_without t n level b es) e ∙ ap (λ x. cond x (node_without (left_written s a b lo mid hi) n level b es) s) h, h)

-- THE SEARCH: hi is the high pivot of the last
module _ (n level : ℕ) (es : List defined.Entry) (hi s : List ℕ) where
  pub first-none : (ks : List Branch) → ks ≡ [] → (s ≡ first_joined n level es ks hi s) × (false ≡ any_fits ks hi s)
  unfolding first_joined any_fits
  first-none ks e = (sym (ap (λ l. first_joined n level es l hi s) e), sym (ap (λ l. any_fits l hi s) e))

  -- the left one in hand is a with the low pivot lo; ks follow
  module _ (a : ℕ) (lo : List ℕ) (ks : List Branch) (result : List ℕ) (Y : Bool)
      (inv : first_joined n level es (branch a lo ∷ ks) hi s ≡ result) (yes : any_fits (branch a lo ∷ ks) hi s ≡ Y) where
    pub first_ends : ks ≡ [] → (s ≡ result) × (false ≡ Y)
    unfolding first_joined any_fits
    first_ends e = (ap (λ l. first_joined n level es (branch a lo ∷ l) hi s) (sym e) ∙ inv, ap (λ l. any_fits (branch a lo ∷ l) hi s) (sym e) ∙ yes)

    -- and the right one is b with the pivots mid and h
    module _ (b : ℕ) (mid h : List ℕ) (us : List Branch) (e : ks ≡ branch b mid ∷ us) (g : h ≡ branch_high hi us) (m : List ℕ) (em : m ≡ branch_high hi ks)
        (s' : List ℕ) (r : Bool) (f : s' ≡ joined_if n level es a b lo m h s) (q : r ≡ pair_fits s a b lo m h) where
      mid-is : m ≡ mid
      unfolding branch_high
      mid-is = em ∙ ap (branch_high hi) e

      fits-is : pair_fits s a b lo mid (branch_high hi us) ≡ r
      fits-is = ap (pair_fits s a b lo mid) (sym g) ∙ ap (λ x. pair_fits s a b lo x h) (sym mid-is) ∙ sym q

      joined-is : s' ≡ cond r (pair_joined n level es a b lo mid (branch_high hi us) s) s
      unfolding joined_if
      joined-is =
          f ∙ ap (λ x. joined_if n level es a b lo x h s) mid-is ∙ ap (λ x. joined_if n level es a b lo mid x s) g
          ∙ ap (λ x. cond x (pair_joined n level es a b lo mid (branch_high hi us) s) s) fits-is

      at_first : cond r (pair_joined n level es a b lo mid (branch_high hi us) s) (first_joined n level es (branch b mid ∷ us) hi s) ≡ result
      unfolding first_joined
      at_first =
          ap (λ x. cond x (pair_joined n level es a b lo mid (branch_high hi us) s) (first_joined n level es (branch b mid ∷ us) hi s)) (sym fits-is)
          ∙ ap (λ l. first_joined n level es (branch a lo ∷ l) hi s) (sym e) ∙ inv

      at-any : cond r true (any_fits (branch b mid ∷ us) hi s) ≡ Y
      unfolding any_fits
      at-any = ap (λ x. cond x true (any_fits (branch b mid ∷ us) hi s)) (sym fits-is) ∙ ap (λ l. any_fits (branch a lo ∷ l) hi s) (sym e) ∙ yes

      pub first-here : r ≡ true → (s' ≡ result) × (true ≡ Y)
      first-here t = (
        joined-is ∙ ap (λ x. cond x (pair_joined n level es a b lo mid (branch_high hi us) s) s) t
            ∙ sym (ap (λ x. cond x (pair_joined n level es a b lo mid (branch_high hi us) s) (first_joined n level es (branch b mid ∷ us) hi s)) t) ∙ at_first,
        sym (ap (λ x. cond x true (any_fits (branch b mid ∷ us) hi s)) t) ∙ at-any,
      )

      pub first_on : r ≡ false → (s' ≡ s) × (first_joined n level es (branch b mid ∷ us) hi s ≡ result) × (any_fits (branch b mid ∷ us) hi s ≡ Y)
      first_on t = (
        joined-is ∙ ap (λ x. cond x (pair_joined n level es a b lo mid (branch_high hi us) s) s) t,
        sym (ap (λ x. cond x (pair_joined n level es a b lo mid (branch_high hi us) s) (first_joined n level es (branch b mid ∷ us) hi s)) t) ∙ at_first,
        sym (ap (λ x. cond x true (any_fits (branch b mid ∷ us) hi s)) t) ∙ at-any,
      )

-- THE LOOP: of the children all with the high pivot last, the left one in hand is a with the pivots lo and m, and ks follow; nothing was joined
pub record Searching (n level : ℕ) (es : List defined.Entry) (s₀ : List ℕ) (all : List Branch) (last s : List ℕ) (a : ℕ) (lo m : List ℕ) (ks : List Branch) (hi : List ℕ) : Type 0 where
  pub same : s ≡ s₀
  pub light : length lo ≤ 1016
  pub lighter : length (child_bytes ks) ≤ 1016
  pub mid : m ≡ branch_high hi ks
  pub joined : first_joined n level es (branch a lo ∷ ks) hi s₀ ≡ first_joined n level es all last s₀
  pub any : any_fits (branch a lo ∷ ks) hi s₀ ≡ any_fits all last s₀

module _ (n level : ℕ) (es : List defined.Entry) (s : List ℕ) (all : List Branch) (last : List ℕ) where
  pub begins : (a : ℕ) (lo m : List ℕ) (ks : List Branch) (hi : List ℕ) → length (child_bytes all) ≤ 1016 → all ≡ branch a lo ∷ ks → m ≡ branch_high last ks → hi ≡ last
      → Searching n level es s all last s a lo m ks hi
  begins a lo m ks hi h e g k =
      let w = pivot-short all ks a lo e h in
      rw k record {
        same = refl;
        light = w.0;
        lighter = w.1;
        mid = g;
        joined = ap (λ l. first_joined n level es l last s) (sym e);
        any = ap (λ l. any_fits l last s) (sym e);
      }

  module _ (s₁ : List ℕ) (a : ℕ) (lo m : List ℕ) (ks : List Branch) (hi : List ℕ) (w : Searching n level es s all last s₁ a lo m ks hi) where
    pub finds-none : ks ≡ [] → (s₁ ≡ first_joined n level es all last s) × (false ≡ any_fits all last s)
    finds-none e = let z = first_ends n level es hi s a lo ks _ _ w.joined w.any e in (w.same ∙ z.0, z.1)

    module _ (b : ℕ) (mid h : List ℕ) (us : List Branch) (e : ks ≡ branch b mid ∷ us) (g : h ≡ branch_high hi us) where
      pub still-short : (length lo ≤ 2000000) × (length m ≤ 2000000)
      unfolding branch_high
      still-short =
          let l = w.light in
          let z = ap length (w.mid ∙ ap (branch_high hi) e) in
          let p = (pivot-short ks us b mid e w.lighter).0 in
          (omega arith, omega arith)

      module _ (s₂ : List ℕ) (r : Bool) (f : s₂ ≡ joined_if n level es a b lo m h s₁) (q : r ≡ pair_fits s₁ a b lo m h) where
        joined-there : s₂ ≡ joined_if n level es a b lo m h s
        joined-there = f ∙ ap (joined_if n level es a b lo m h) w.same

        fits-there : r ≡ pair_fits s a b lo m h
        fits-there = q ∙ ap (λ x. pair_fits x a b lo m h) w.same

        pub finds : r ≡ true → (s₂ ≡ first_joined n level es all last s) × (true ≡ any_fits all last s)
        finds t = first-here n level es hi s a lo ks _ _ w.joined w.any b mid h us e g m w.mid s₂ r joined-there fits-there t

        pub goes-on : r ≡ false → (hi' : List ℕ) → hi' ≡ hi → Searching n level es s all last s₂ b mid h us hi'
        goes-on t hi' k =
            let z = first_on n level es hi s a lo ks _ _ w.joined w.any b mid h us e g m w.mid s₂ r joined-there fits-there t in
            let p = pivot-short ks us b mid e w.lighter in
            rw k record { same = z.0; light = p.0; lighter = p.1; mid = g; joined = z.1; any = z.2 }
