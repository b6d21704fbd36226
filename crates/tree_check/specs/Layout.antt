-- The layout of a node and of node 0, read at its place in the store.
-- Relies on image's layout (Image) and on lookup's laws of a node's bytes.
use Rattle.std.specs.Prelude.{ℕ, suc, ◌+◌, ◌*◌, ◌/◌, ◌<◌, ◌≤◌, ◌≡◌, refl, List, ◌∷◌, Bool, true, false, ◌&&◌, length, drop, get_or, leb, eqb, max}
use Rattle.image.specs.Prelude.{sym, ap, ap₂, ◌∙◌, and-true, none, arith, drop-cons, le-leb, lt-leb, eq-eqb, ne_eqb, eqb-true, eqb-false, add-one}
use Rattle.std.proofs.lemmas.List.{drop_all}
use Rattle.image.specs.Bytes.{u16, zeros}
use Rattle.image.specs.Entry as defined
use Rattle.image.specs.Image.{node_bytes, nodes_of, laid_out, node_entries}
use Rattle.octets.specs.Order.{and_assoc}
use Rattle.node.specs.Cut.{cut, cut-drop, cut-u16}
use Rattle.node.specs.Whole.{HasEntries}
use Rattle.lookup.specs.Look.{node-is, count-is, bytes-is, laid-short as look-short}

-- the number of nodes as the code computes it
pub nodes-are : (n : ℕ) → n / 1024 ≡ nodes_of n
unfolding nodes_of
nodes-are n = refl

-- bytes are all zero where the largest is
max-zero : (a b : ℕ) → eqb (max a b) 0 ≡ (eqb a 0 && eqb b 0)
max-zero a b = go (eqb a 0) refl (eqb b 0) refl
  where
    go : (x : Bool) → eqb a 0 ≡ x → (y : Bool) → eqb b 0 ≡ y → eqb (max a b) 0 ≡ (eqb a 0 && eqb b 0)
    go true e true f = let p = eqb-true a 0 e in let q = eqb-true b 0 f in rw (e, f) (eq-eqb (max a b) 0 (omega arith))
    go true e false f = let q = eqb-false b 0 f in rw (e, f) (ne_eqb (max a b) 0 (λ z. q (omega arith)))
    go false e y f = let q = eqb-false a 0 e in rw e (ne_eqb (max a b) 0 (λ z. q (omega arith)))

module _ (s : List ℕ) (i : ℕ) where
  pub zeros-on : (most next : ℕ) → i < length s → next ≡ max most (get_or s i 0) → (eqb most 0 && zeros (drop i s)) ≡ zeros s → (eqb next 0 && zeros (drop (i + 1) s)) ≡ zeros s
  unfolding zeros
  zeros-on most next h e inv =
      let d : drop i s ≡ get_or s i 0 ∷ drop (suc i) s = drop-cons s i 0 h in
      let w : eqb most 0 && (eqb (get_or s i 0) 0 && zeros (drop (suc i) s)) ≡ zeros s = ap (λ l. eqb most 0 && zeros l) (sym d) ∙ inv in
      ap₂ (λ n k. eqb n 0 && zeros (drop k s)) e (add-one i)
      ∙ ap (λ x. x && zeros (drop (suc i) s)) (max-zero most (get_or s i 0))
      ∙ and_assoc (eqb most 0) (eqb (get_or s i 0) 0) (zeros (drop (suc i) s)) ∙ w

  pub zeros-done : (most : ℕ) → length s ≤ i → (eqb most 0 && zeros (drop i s)) ≡ zeros s → eqb most 0 ≡ zeros s
  unfolding zeros
  zeros-done most h inv = sym (ap (λ l. eqb most 0 && zeros l) (drop_all i s h) ∙ and-true (eqb most 0)) ∙ inv

-- A node in the store: each test that may fail, and all of them.
module _ (s : List ℕ) (i kind level : ℕ) (inside : i * 1024 + 1024 ≤ length s) where
  word : (k : ℕ) → k + 1 < 1024 → u16 (node_bytes s i) k ≡ u16 s (i * 1024 + k)
  word k h = ap (λ l. u16 l k) (node-is s i inside) ∙ cut-u16 s (i * 1024) (i * 1024 + 1024) k (omega arith)

  rest-is : (len : ℕ) → len ≡ u16 s (i * 1024) → len ≤ 1016 → drop (8 + u16 (node_bytes s i) 0) (node_bytes s i) ≡ cut s (i * 1024 + 8 + len) (i * 1024 + 1024)
  rest-is len e h =
      let c : 8 + u16 (node_bytes s i) 0 ≡ 8 + len = ap (λ n. 8 + n) (count-is s i inside ∙ sym e) in
      let a : i * 1024 + (8 + len) ≡ i * 1024 + 8 + len = omega arith in
      ap₂ (λ n l. drop n l) c (node-is s i inside) ∙ cut-drop s (i * 1024) (i * 1024 + 1024) (8 + len) (omega arith) ∙ ap (λ n. cut s n (i * 1024 + 1024)) a

  and5 : (a b c d e : Bool) → d ≡ false → a && b && c && d && e ≡ false
  and5 true true true d e h = rw h
  and5 true true false d e h = refl
  and5 true false c d e h = refl
  and5 false b c d e h = refl

  and4 : (a b c d e : Bool) → c ≡ false → a && b && c && d && e ≡ false
  and4 true true c d e h = rw h
  and4 true false c d e h = refl
  and4 false b c d e h = refl

  and3 : (a b c d e : Bool) → b ≡ false → a && b && c && d && e ≡ false
  and3 true b c d e h = rw h
  and3 false b c d e h = refl

  pub laid-long : (len : ℕ) → len ≡ u16 s (i * 1024) → 1016 < len → false ≡ laid_out kind level (node_bytes s i)
  unfolding laid_out
  laid-long len e h =
      let c : u16 (node_bytes s i) 0 ≡ u16 s (i * 1024) = count-is s i inside in
      rw (lt-leb (u16 (node_bytes s i) 0) 1016 (omega arith))

  pub laid-kind : (k : ℕ) → k ≡ u16 s (i * 1024 + 2) → (k ≡ kind → ⊥) → false ≡ laid_out kind level (node_bytes s i)
  unfolding laid_out
  laid-kind k e h =
      let w : u16 (node_bytes s i) 2 ≡ k = word 2 (omega arith) ∙ sym e in
      sym (and3 (leb (u16 (node_bytes s i) 0) 1016) (eqb (u16 (node_bytes s i) 2) kind) (eqb (u16 (node_bytes s i) 4) level) (eqb (u16 (node_bytes s i) 6) 0) (zeros (drop (8 + u16 (node_bytes s i) 0) (node_bytes s i)))
      (ne_eqb (u16 (node_bytes s i) 2) kind (λ q. h (sym w ∙ q))))

  pub laid-level : (k : ℕ) → k ≡ u16 s (i * 1024 + 4) → (k ≡ level → ⊥) → false ≡ laid_out kind level (node_bytes s i)
  unfolding laid_out
  laid-level k e h =
      let w : u16 (node_bytes s i) 4 ≡ k = word 4 (omega arith) ∙ sym e in
      sym (and4 (leb (u16 (node_bytes s i) 0) 1016) (eqb (u16 (node_bytes s i) 2) kind) (eqb (u16 (node_bytes s i) 4) level) (eqb (u16 (node_bytes s i) 6) 0) (zeros (drop (8 + u16 (node_bytes s i) 0) (node_bytes s i)))
      (ne_eqb (u16 (node_bytes s i) 4) level (λ q. h (sym w ∙ q))))

  pub laid-zero : (k : ℕ) → k ≡ u16 s (i * 1024 + 6) → (k ≡ 0 → ⊥) → false ≡ laid_out kind level (node_bytes s i)
  unfolding laid_out
  laid-zero k e h =
      let w : u16 (node_bytes s i) 6 ≡ k = word 6 (omega arith) ∙ sym e in
      sym (and5 (leb (u16 (node_bytes s i) 0) 1016) (eqb (u16 (node_bytes s i) 2) kind) (eqb (u16 (node_bytes s i) 4) level) (eqb (u16 (node_bytes s i) 6) 0) (zeros (drop (8 + u16 (node_bytes s i) 0) (node_bytes s i)))
      (ne_eqb (u16 (node_bytes s i) 6) 0 (λ q. h (sym w ∙ q))))

  pub laid-rest : (len a b z : ℕ) → len ≡ u16 s (i * 1024) → len ≤ 1016 → a ≡ u16 s (i * 1024 + 2) → a ≡ kind → b ≡ u16 s (i * 1024 + 4) → b ≡ level
      → z ≡ u16 s (i * 1024 + 6) → z ≡ 0 → (r : Bool) → r ≡ zeros (cut s (i * 1024 + 8 + len) (i * 1024 + 1024)) → r ≡ laid_out kind level (node_bytes s i)
  unfolding laid_out
  laid-rest len a b z el hl ea ha eb hb ez hz r er =
      let c : u16 (node_bytes s i) 0 ≡ u16 s (i * 1024) = count-is s i inside in
      let wa : u16 (node_bytes s i) 2 ≡ kind = word 2 (omega arith) ∙ sym ea ∙ ha in
      let wb : u16 (node_bytes s i) 4 ≡ level = word 4 (omega arith) ∙ sym eb ∙ hb in
      let wz : u16 (node_bytes s i) 6 ≡ 0 = word 6 (omega arith) ∙ sym ez ∙ hz in
      er ∙ ap (λ l. zeros l) (sym (rest-is len el hl))
      ∙ rw (le-leb (u16 (node_bytes s i) 0) 1016 (omega arith), eq-eqb (u16 (node_bytes s i) 2) kind wa, eq-eqb (u16 (node_bytes s i) 4) level wb, eq-eqb (u16 (node_bytes s i) 6) 0 wz)

  -- the entries of a node that is laid out, and of one that is not
  pub laid-entries : laid_out kind level (node_bytes s i) ≡ true → HasEntries s i
  laid-entries h =
      let w = look-short kind level (node_bytes s i) h in
      let c : u16 (node_bytes s i) 0 ≡ u16 s (i * 1024) = count-is s i inside in
      (inside, omega arith)

  pub entries_at : (b : List ℕ) → b ≡ cut s (i * 1024 + 8) (i * 1024 + 8 + u16 s (i * 1024)) → laid_out kind level (node_bytes s i) ≡ true
      → node_entries kind level (node_bytes s i) ≡ defined.entries_of b
  unfolding node_entries
  entries_at b e h = rw h (ap (λ l. defined.entries_of l) (bytes-is s i inside (laid-entries h).1 ∙ sym e))

  pub entries_none : laid_out kind level (node_bytes s i) ≡ false → node_entries kind level (node_bytes s i) ≡ none
  unfolding node_entries
  entries_none h = rw h
