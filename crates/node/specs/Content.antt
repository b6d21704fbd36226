-- The bytes of the entries on a page of zeros, and what a write behind them leaves. Relies on octets' Put and on Pages.
use Rattle.std.specs.Prelude.{ℕ, ◌+◌, ◌≤◌, ◌≡◌, refl, List, [], ◌++◌, length, take, drop}
use Rattle.image.specs.Prelude.{sym, ap, ap₂, ◌∙◌, arith, length-append, length-take-le, length-drop, length-replicate, take-append_seam}
use Rattle.laws.specs.Page.{zeros_of}
use Rattle.octets.specs.Put.{put, put-put, put-nil, put-size}

-- the first len bytes behind the first 8
unfoldable pub content : List ℕ → ℕ → List ℕ
content bytes len = take len (drop 8 bytes)

-- they are the page's entries, and all else is zero
pub record Holds (bytes : List ℕ) (len : ℕ) : Type 0 where
  pub short : len ≤ 1016
  pub full : length bytes ≡ 1024
  pub laid : bytes ≡ put (zeros_of 1024) 8 (content bytes len)

zeros-length : length (zeros_of 1024) ≡ 1024
unfolding zeros_of
zeros-length = length-replicate {A = ℕ} 1024 0

module _ (bytes : List ℕ) (len : ℕ) (h : Holds bytes len) where
  pub content-length : length (content bytes len) ≡ len
  unfolding content
  content-length = let s = h.short in let f = h.full in length-take-le len (drop 8 bytes) (omega (arith, length-drop 8 bytes))

  -- entries written behind the others
  pub written-behind : (es after : List ℕ) → len + length es ≤ 1016 → after ≡ put bytes (8 + len) es → after ≡ put (zeros_of 1024) 8 (content bytes len ++ es)
  written-behind es after r e =
      let l = content-length in
      let z = zeros-length in
      let q : 8 + len ≡ 8 + length (content bytes len) = omega arith in
      e ∙ ap₂ (λ p i. put p i es) h.laid q ∙ put-put (zeros_of 1024) 8 (content bytes len) es (omega arith)

content-of : (es : List ℕ) → length es ≤ 1016 → content (put (zeros_of 1024) 8 es) (length es) ≡ es
unfolding content put zeros_of
content-of es h = take-append_seam es _

pub content-is : (bytes es : List ℕ) (len : ℕ) → length es ≤ 1016 → bytes ≡ put (zeros_of 1024) 8 es → len ≡ length es → content bytes len ≡ es
content-is bytes es len h b l = ap₂ (λ x n. content x n) b l ∙ content-of es h

pub holds-written : (bytes es : List ℕ) (len : ℕ) → length es ≤ 1016 → bytes ≡ put (zeros_of 1024) 8 es → len ≡ length es → Holds bytes len
holds-written bytes es len h b l = record { short = omega arith; full = ap length b ∙ put-size (zeros_of 1024) 8 es (let z = zeros-length in omega arith) ∙ zeros-length; laid = b ∙ ap (λ x. put (zeros_of 1024) 8 x) (sym (content-is bytes es len h b l)) }

-- no entries
pub content-none : (bytes : List ℕ) → content bytes 0 ≡ []
unfolding content
content-none bytes = refl

pub holds-none : Holds (zeros_of 1024) 0
holds-none = record { short = omega arith; full = zeros-length; laid = sym (put-nil (zeros_of 1024) 8) ∙ ap (λ x. put (zeros_of 1024) 8 x) (sym (content-none (zeros_of 1024))) }

-- A page whose entries are seen as `seen`, and entries put behind them.
module _ (bytes : List ℕ) (len : ℕ) (h : Holds bytes len) (seen : List ℕ) (v : content bytes len ≡ seen) where
  pub seen-length : length seen ≡ len
  seen-length = ap length (sym v) ∙ content-length bytes len h

  module _ (es after : List ℕ) (n : ℕ) (r : length seen + length es ≤ 1016) (e : after ≡ put bytes (8 + len) es) (l : n ≡ len + length es) where
    behind : after ≡ put (zeros_of 1024) 8 (seen ++ es)
    behind = let q = seen-length in written-behind bytes len h es after (omega arith) e ∙ ap (λ x. put (zeros_of 1024) 8 (x ++ es)) v

    total : length (seen ++ es) ≡ len + length es
    total = length-append seen es ∙ ap (λ x. x + length es) seen-length

    pub seen-behind : content after n ≡ seen ++ es
    seen-behind = let q = seen-length in let t = total in content-is after (seen ++ es) n (omega arith) behind (l ∙ sym t)

    pub holds-behind : Holds after n
    holds-behind = let q = seen-length in let t = total in holds-written after (seen ++ es) n (omega arith) behind (l ∙ sym t)
