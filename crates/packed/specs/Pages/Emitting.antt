-- The loop that writes the entries of the rows from one to another into a page, one row after the other: what holds before each turn.
-- Said of any entries; `bytes n t` are those of the n rows from row t on, and `step` and `done` say that they follow each other.
use Rattle.std.specs.Prelude.{ℕ, ◌+◌, ◌-◌, ◌<◌, ◌≤◌, ◌≡◌, refl, List, [], ◌++◌, length}
use Rattle.image.specs.Prelude.{sym, ap, ◌∙◌, arith, length-append}
use Rattle.octets.specs.Put.{put, put-put, put-nil, put-size}

module _ (bytes : ℕ → ℕ → List ℕ) where
  pub record Emits (page₀ : List ℕ) (from to at : ℕ) (page : List ℕ) (t p : ℕ) : Type 0 where
    pub in_range : t ≤ to
    pub not_before : from ≤ t
    pub size : length page ≡ length page₀
    pub place : p + length (bytes (to - t) t) ≡ at + length (bytes (to - from) from)
    pub so_far : put page p (bytes (to - t) t) ≡ put page₀ at (bytes (to - from) from)

  pub emits-first : (page : List ℕ) (from to at : ℕ) → from ≤ to → Emits page from to at page from at
  emits-first page from to at h = record { in_range = h; not_before = omega arith; size = refl; place = refl; so_far = refl }

  module _ (page₀ : List ℕ) (from to at : ℕ) (page : List ℕ) (t p : ℕ) (e : Emits page₀ from to at page t p) where
    pub emits-last : bytes (to - t) t ≡ [] → (page ≡ put page₀ at (bytes (to - from) from)) × (p ≡ at + length (bytes (to - from) from))
    emits-last done =
        let a = ap length done in
        let b = e.place in
        (sym (put-nil page p) ∙ ap (put page p) (sym done) ∙ e.so_far, omega arith)

    module _ (h : t < to) (step : bytes (to - t) t ≡ bytes 1 t ++ bytes (to - (t + 1)) (t + 1)) where
      pub emits-room : p + length (bytes 1 t) ≤ at + length (bytes (to - from) from)
      emits-room =
          let a = ap length step ∙ length-append (bytes 1 t) (bytes (to - (t + 1)) (t + 1)) in
          let b = e.place in
          omega arith

      pub emits-next : at + length (bytes (to - from) from) ≤ length page₀ → (page' : List ℕ) (p' : ℕ) → page' ≡ put page p (bytes 1 t) → p' ≡ p + length (bytes 1 t)
          → Emits page₀ from to at page' (t + 1) p'
      emits-next r page' p' x y =
          let a = ap length step ∙ length-append (bytes 1 t) (bytes (to - (t + 1)) (t + 1)) in
          let b = e.place in
          let c = e.size in
          rw (x, y)
          (record {
            in_range = omega arith;
            not_before = let q = e.not_before in omega arith;
            size = put-size page p (bytes 1 t) (omega arith) ∙ c;
            place = omega arith;
            so_far = put-put page p (bytes 1 t) (bytes (to - (t + 1)) (t + 1)) (omega arith) ∙ ap (put page p) (sym step) ∙ e.so_far;
          })
