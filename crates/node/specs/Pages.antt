-- A page as a node of a store: entries behind its first bytes, on zeros; a leaf without entries; and node 0. Each is the page of laws/Page.
-- Relies on octets/specs/Put.
use Rattle.std.specs.Prelude.{ℕ, ◌+◌, ◌*◌, ◌-◌, ◌≤◌, ◌≡◌, refl, List, [], ◌∷◌, ◌++◌, length, take, drop, replicate}
use Rattle.image.specs.Prelude.{sym, ap, ap₂, ◌∙◌, arith, take-append-drop}
use Rattle.image.specs.Bytes.{u16_bytes}
use Rattle.laws.specs.Page.{page, page-length, head_page, head-length, zeros_of, drop-zeros, take-zeros}
use Rattle.laws.specs.WriteNode.{write_node}
use Rattle.octets.specs.Put.{put, put-nil}

-- ENTRIES ON A PAGE OF ZEROS
zeros-put : (es : List ℕ) → length es ≤ 1016 → put (zeros_of 1024) 8 es ≡ zeros_of 8 ++ (es ++ zeros_of (1016 - length es))
unfolding put
zeros-put es h =
    let z : 1024 - (8 + length es) ≡ 1016 - length es = omega arith in
    ap₂ (λ x y. x ++ (es ++ y)) (take-zeros 8 1024 (omega arith)) (drop-zeros (8 + length es) 1024 ∙ ap zeros_of z)

zeros-eight : (k : ℕ) (es : List ℕ) → zeros_of 8 ++ (es ++ zeros_of k) ≡ 0 ∷ 0 ∷ 0 ∷ 0 ∷ 0 ∷ 0 ∷ 0 ∷ 0 ∷ (es ++ replicate k 0)
unfolding zeros_of
zeros-eight k es = refl

pub page-is : (es : List ℕ) (kind level : ℕ) → length es ≤ 1016
    → put (put (put (put (zeros_of 1024) 8 es) 0 (u16_bytes (length es))) 2 (u16_bytes kind)) 4 (u16_bytes level) ≡ page kind level es
page-is es kind level h =
    ap (λ x. put (put (put x 0 (u16_bytes (length es))) 2 (u16_bytes kind)) 4 (u16_bytes level)) first-put ∙ heads (es ++ replicate (1016 - length es) 0) ∙ (unfold page in refl)
  where
    first-put : put (zeros_of 1024) 8 es ≡ 0 ∷ 0 ∷ 0 ∷ 0 ∷ 0 ∷ 0 ∷ 0 ∷ 0 ∷ (es ++ replicate (1016 - length es) 0)
    first-put = zeros-put es h ∙ zeros-eight (1016 - length es) es

    heads : (r : List ℕ) → put (put (put (0 ∷ 0 ∷ 0 ∷ 0 ∷ 0 ∷ 0 ∷ 0 ∷ 0 ∷ r) 0 (u16_bytes (length es))) 2 (u16_bytes kind)) 4 (u16_bytes level)
        ≡ u16_bytes (length es) ++ (u16_bytes kind ++ (u16_bytes level ++ (0 ∷ 0 ∷ r)))
    heads r = unfold put in refl

-- A PAGE AS A NODE OF A STORE
pub put-node : (store : List ℕ) (num : ℕ) (bytes : List ℕ) → length bytes ≡ 1024 → put store (num * 1024) bytes ≡ write_node store num bytes
unfolding put write_node
put-node store num bytes e =
    let a : num * 1024 ≡ 1024 * num = omega arith in
    let b : num * 1024 + length bytes ≡ 1024 * num + 1024 = omega arith in
    ap₂ (λ x y. take x store ++ (bytes ++ drop y store)) a b

node-written : (s bytes : List ℕ) (n : ℕ) (s' : List ℕ) → length bytes ≡ 1024 → s' ≡ put s (n * 1024) bytes → s' ≡ write_node s n bytes
node-written s bytes n s' e q = q ∙ put-node s n bytes e

-- a page whose entries end at e, written with its first bytes
pub page-written : (s s' p : List ℕ) (n kind level e : ℕ) (body : List ℕ) → length body ≤ 1016 → p ≡ put (zeros_of 1024) 8 body → e ≡ 8 + length body
    → s' ≡ put s (n * 1024) (put (put (put p 0 (u16_bytes (e - 8))) 2 (u16_bytes kind)) 4 (u16_bytes level)) → s' ≡ write_node s n (page kind level body)
page-written s s' p n kind level e body h a b c =
    let z : e - 8 ≡ length body = omega arith in
    let t : put (put (put p 0 (u16_bytes (e - 8))) 2 (u16_bytes kind)) 4 (u16_bytes level) ≡ page kind level body =
    ap₂ (λ x y. put (put (put x 0 (u16_bytes y)) 2 (u16_bytes kind)) 4 (u16_bytes level)) a z ∙ page-is body kind level h in
    node-written s (page kind level body) n s' (page-length kind level body h) (c ∙ ap (put s (n * 1024)) t)

-- a leaf without entries
pub leaf-written : (s s' : List ℕ) (n : ℕ) → s' ≡ put s (n * 1024) (put (put (put (zeros_of 1024) 0 (u16_bytes 0)) 2 (u16_bytes 1)) 4 (u16_bytes 1)) → s' ≡ write_node s n (page 1 1 [])
leaf-written s s' n c = page-written s s' (zeros_of 1024) n 1 1 8 [] (omega arith) (sym (put-nil (zeros_of 1024) 8)) refl c

-- NODE 0
zeros-split : (k : ℕ) → k ≤ 1024 → zeros_of 1024 ≡ zeros_of k ++ zeros_of (1024 - k)
zeros-split k h = sym (take-append-drop k (zeros_of 1024)) ∙ ap₂ (λ a b. a ++ b) (take-zeros k 1024 h) (drop-zeros k 1024)

twelve : (k : ℕ) → zeros_of 12 ++ zeros_of k ≡ 0 ∷ 0 ∷ 0 ∷ 0 ∷ 0 ∷ 0 ∷ 0 ∷ 0 ∷ 0 ∷ 0 ∷ 0 ∷ 0 ∷ replicate k 0
unfolding zeros_of
twelve k = refl

head-is : (n root levels live : ℕ) (p₁ p₂ p₃ p₄ p₅ p₆ : List ℕ) → p₁ ≡ put (zeros_of 1024) 0 (u16_bytes 8) → p₂ ≡ put p₁ 2 (u16_bytes 256) → p₃ ≡ put p₂ 4 (u16_bytes n)
    → p₄ ≡ put p₃ 6 (u16_bytes root) → p₅ ≡ put p₄ 8 (u16_bytes levels) → p₆ ≡ put p₅ 10 (u16_bytes live) → p₆ ≡ head_page n root levels live
head-is n root levels live p₁ p₂ p₃ p₄ p₅ p₆ a b c d e f =
    f ∙ ap (λ x. put x 10 (u16_bytes live)) (e ∙ ap (λ x. put x 8 (u16_bytes levels)) (d ∙ ap (λ x. put x 6 (u16_bytes root)) (c ∙ ap (λ x. put x 4 (u16_bytes n))
    (b ∙ ap (λ x. put x 2 (u16_bytes 256)) (a ∙ ap (λ x. put x 0 (u16_bytes 8)) (zeros-split 12 (omega arith) ∙ twelve 1012))))))
    ∙ heads (replicate 1012 0)
    ∙ shown
  where
    heads : (r : List ℕ) → put (put (put (put (put (put (0 ∷ 0 ∷ 0 ∷ 0 ∷ 0 ∷ 0 ∷ 0 ∷ 0 ∷ 0 ∷ 0 ∷ 0 ∷ 0 ∷ r) 0 (u16_bytes 8)) 2 (u16_bytes 256)) 4 (u16_bytes n)) 6 (u16_bytes root)) 8 (u16_bytes levels)) 10 (u16_bytes live)
        ≡ 8 ∷ 0 ∷ 0 ∷ 1 ∷ (u16_bytes n ++ (u16_bytes root ++ (u16_bytes levels ++ (u16_bytes live ++ r))))
    heads r = unfold put in refl

    shown : 8 ∷ 0 ∷ 0 ∷ 1 ∷ (u16_bytes n ++ (u16_bytes root ++ (u16_bytes levels ++ (u16_bytes live ++ replicate 1012 0)))) ≡ head_page n root levels live
    shown = unfold head_page in refl

pub head-written : (s s' : List ℕ) (n root levels live : ℕ) (p₁ p₂ p₃ p₄ p₅ p₆ : List ℕ) → p₁ ≡ put (zeros_of 1024) 0 (u16_bytes 8) → p₂ ≡ put p₁ 2 (u16_bytes 256) → p₃ ≡ put p₂ 4 (u16_bytes n)
    → p₄ ≡ put p₃ 6 (u16_bytes root) → p₅ ≡ put p₄ 8 (u16_bytes levels) → p₆ ≡ put p₅ 10 (u16_bytes live) → s' ≡ put s 0 p₆ → s' ≡ write_node s 0 (head_page n root levels live)
head-written s s' n root levels live p₁ p₂ p₃ p₄ p₅ p₆ a b c d e f g =
    g ∙ ap (put s 0) (head-is n root levels live p₁ p₂ p₃ p₄ p₅ p₆ a b c d e f) ∙ put-node s 0 (head_page n root levels live) (head-length n root levels live)
