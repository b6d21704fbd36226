-- Step lemmas of a leaf that takes messages: the pairs that stay, put on a page, and the page written.
-- Relies on Laws/Leaves and LeafRoom.
use Rattle.std.specs.Prelude.{ℕ, ◌+◌, ◌*◌, ◌≤◌, ◌≡◌, refl, List, [], ◌∷◌, ◌++◌, Bool, true, false, not, cond, length}
use Rattle.std.specs.Borrow.{Bor}
use Rattle.image.specs.Prelude.{sym, ap, ◌∙◌, append_assoc, arith, length-append, eq-eqb, ne_eqb}
use Rattle.image.specs.Bytes.{u16, before, same, begins}
use Rattle.image.specs.Entry as defined
use Rattle.laws.specs.Encode.{bytes_of, bytes_of_all}
use Rattle.laws.specs.WriteNode.{write_node}
use Rattle.laws.specs.Page.{page}
use Rattle.laws.specs.Upkeep.Size.{bytes-append}
use Rattle.node.specs.Lent.{entry_is, message_is, Small}
use Rattle.node.specs.declared.entries.Entry.{Entry}
use Rattle.node.specs.declared.entries.Message.{Message}
use Rattle.lookup.specs.Look.{listing}
use Rattle.push.specs.Laws.Arriving.{brought, brought_all}
use Rattle.push.specs.Laws.Leaves.{kept, pairs_after, applied, leaf_takes_one, leaf_takes}
use Rattle.push.specs.Laws.Written.{child_takes, interior_takes, has_room}
use Rattle.push.specs.Laws.Only.{room-inside, room_fits}
use Rattle.push.specs.Laws.LeafRoom.{after-fits, one-taken}

-- WHICH PAIRS STAY, an entry at a time
pub kept-none : (test : List ℕ → Bool) (es : List defined.Entry) → es ≡ [] → bytes_of_all (kept test es) ≡ []
unfolding kept bytes_of_all
kept-none test es q = rw q

module _ (test : List ℕ → Bool) (e : Entry) (es ts : List defined.Entry) (q : es ≡ entry_is e ∷ ts) where
  other-kept : (x : Entry) → ((k v : Bor (List ℕ)) → x ≡ Entry.Pair k v → ⊥) → kept test (entry_is x ∷ ts) ≡ kept test ts
  unfolding kept
  other-kept (Entry.Pair k v) h = absurd (h k v refl)
  other-kept (Entry.Child i k) h = refl
  other-kept (Entry.Message m) h = refl

  pub kept-other : ((k v : Bor (List ℕ)) → e ≡ Entry.Pair k v → ⊥) → bytes_of_all (kept test es) ≡ bytes_of_all (kept test ts)
  kept-other h = ap (λ l. bytes_of_all (kept test l)) q ∙ ap bytes_of_all (other-kept e h)

  module _ (k v : Bor (List ℕ)) (p : e ≡ Entry.Pair k v) where
    pub kept-not : false ≡ test k.now → bytes_of_all (kept test es) ≡ bytes_of_all (kept test ts)
    unfolding kept
    kept-not n = rw (q, p, sym n) refl

    pub kept-yes : true ≡ test k.now → bytes_of_all (kept test es) ≡ bytes_of (entry_is e) ++ bytes_of_all (kept test ts)
    unfolding kept bytes_of_all
    kept-yes n = rw (q, p, sym n) refl

    pub pair-small : Small (entry_is e)
    pair-small = rw p tt

-- THE PAIRS AFTER A PUT
module _ (key value : List ℕ) (es : List defined.Entry) (now : List ℕ) where
  abbrev A : List ℕ
  A = bytes_of_all (kept (λ q. before q key) es)

  abbrev B : List ℕ
  B = bytes_of (defined.pair key value)

  abbrev C : List ℕ
  C = bytes_of_all (kept (λ q. before key q) es)

  with-bytes : bytes_of_all (pairs_after (defined.puts key value) es) ≡ A ++ (B ++ C)
  unfolding pairs_after bytes_of_all
  with-bytes = bytes-append (kept (λ q. before q key) es) (defined.pair key value ∷ kept (λ q. before key q) es)

  module _ (h : length now + length (bytes_of_all (pairs_after (defined.puts key value) es)) ≤ 1016) where
    sizes : length now + (length A + (length B + length C)) ≤ 1016
    sizes = let a = ap length with-bytes in let b = length-append A (B ++ C) in let c = length-append B C in omega arith

    pub first_fits : length now + length A ≤ 1016
    first_fits = let a = sizes in omega arith

    module _ (p₁ : List ℕ) (e₁ : p₁ ≡ now ++ A) where
      pub second_fits : length p₁ + length B ≤ 1016
      second_fits = let a = sizes in let b = ap length e₁ in let c = length-append now A in omega arith

      module _ (p₂ : List ℕ) (e₂ : p₂ ≡ p₁ ++ B) where
        pub third-fits : length p₂ + length C ≤ 1016
        third-fits = let a = sizes in let b = ap length e₁ in let c = length-append now A in let d = ap length e₂ in let f = length-append p₁ B in omega arith

        pub with-put : (p₃ : List ℕ) → p₃ ≡ p₂ ++ C → p₃ ≡ now ++ bytes_of_all (pairs_after (defined.puts key value) es)
        with-put p₃ e₃ =
            e₃ ∙ ap (λ l. l ++ C) (e₂ ∙ ap (λ l. l ++ B) e₁) ∙ append_assoc (now ++ A) B C ∙ append_assoc now A (B ++ C) ∙ ap (λ l. now ++ l) (sym with-bytes)

-- THE PAIRS AFTER A MESSAGE, by its kind
module _ (m : Message) (key : Bor (List ℕ)) (es : List defined.Entry) where
  pub put-leaves : (value : Bor (List ℕ)) → m ≡ Message.Put key value → pairs_after (defined.puts key.now value.now) es ≡ pairs_after (message_is m) es
  put-leaves value e = rw e refl

  pub drop-leaves : m ≡ Message.Drop key → kept (λ q. not (same key.now q)) es ≡ pairs_after (message_is m) es
  unfolding pairs_after
  drop-leaves e = rw e refl

  pub clear-leaves : m ≡ Message.Clear key → kept (λ q. not (begins key.now q)) es ≡ pairs_after (message_is m) es
  unfolding pairs_after
  clear-leaves e = rw e refl

-- room for what is as much
pub fits-as : (now : List ℕ) (a b : List defined.Entry) → a ≡ b → length now + length (bytes_of_all b) ≤ 1016 → length now + length (bytes_of_all a) ≤ 1016
fits-as now a b e h = let z = ap (λ l. length (bytes_of_all l)) e in omega arith

-- THE LEAF, WRITTEN: its entries are es
module _ (n : defined.Message) (i : ℕ) (s : List ℕ) (es : List defined.Entry) (q : es ≡ listing s i) where
  pub leaf-fits : i * 1024 + 1024 ≤ length s → u16 s (i * 1024) + length (bytes_of (defined.message n)) ≤ 1016 → length (bytes_of_all (pairs_after n es)) ≤ 1016
  leaf-fits inside fits = let a = ap (λ l. length (bytes_of_all (pairs_after n l))) q in let b = after-fits n i s inside fits in omega arith

  pub leaf-written : (bare p s' : List ℕ) → bare ≡ [] → p ≡ bare ++ bytes_of_all (pairs_after n es) → s' ≡ write_node s i (page 1 1 p) → s' ≡ applied n i s
  unfolding applied
  leaf-written bare p s' b a d =
      d ∙ ap (λ l. write_node s i (page 1 1 l)) (a ∙ ap (λ l. l ++ bytes_of_all (pairs_after n es)) b ∙ ap (λ l. bytes_of_all (pairs_after n l)) q)

-- ALL ENTRIES OF THE NODE
pub all-taken : (es : List defined.Entry) (i : ℕ) (lo hi s result : List ℕ) → es ≡ [] → leaf_takes es i lo hi s ≡ result → s ≡ result
unfolding leaf_takes
all-taken es i lo hi s result q inv = ap (λ l. leaf_takes l i lo hi s) (sym q) ∙ inv

module _ (es ts : List defined.Entry) (e : defined.Entry) (q : es ≡ e ∷ ts) (i : ℕ) (lo hi s : List ℕ) (room : has_room es i lo hi s ≡ true) where
  room-here : has_room (e ∷ ts) i lo hi s ≡ true
  room-here = ap (λ l. has_room l i lo hi s) (sym q) ∙ room

  pub entry-inside : i * 1024 + 1024 ≤ length s
  entry-inside = room-inside es i lo hi s room

  pub entry-fits : u16 s (i * 1024) + length (brought e lo hi) ≤ 1016
  unfolding brought_all
  entry-fits = let a = room_fits (e ∷ ts) i lo hi s room-here in let b = length-append (brought e lo hi) (brought_all ts lo hi) in omega arith

  pub room_left : (s' : List ℕ) → s' ≡ leaf_takes_one e i lo hi s → has_room ts i lo hi s' ≡ true
  room_left s' h = ap (has_room ts i lo hi) h ∙ (one-taken e ts i lo hi s room-here).left

  pub entry-taken : (s' result : List ℕ) → s' ≡ leaf_takes_one e i lo hi s → leaf_takes es i lo hi s ≡ result → leaf_takes ts i lo hi s' ≡ result
  unfolding leaf_takes
  entry-taken s' result h inv = ap (leaf_takes ts i lo hi) h ∙ ap (λ l. leaf_takes l i lo hi s) (sym q) ∙ inv

-- A CHILD OF EITHER KIND
module _ (es : List defined.Entry) (i : ℕ) (lo hi s s' : List ℕ) (kind : ℕ) (ek : kind ≡ u16 s (i * 1024 + 2)) where
  pub leaf-child : kind ≡ 1 → s' ≡ leaf_takes es i lo hi s → s' ≡ child_takes es i lo hi s
  unfolding child_takes
  leaf-child e h =
      h ∙ sym (ap (λ x. cond x (leaf_takes es i lo hi s) (interior_takes es i lo hi s)) (eq-eqb (u16 s (i * 1024 + 2)) 1 (sym ek ∙ e)))

  pub interior-child : (kind ≡ 1 → ⊥) → s' ≡ interior_takes es i lo hi s → s' ≡ child_takes es i lo hi s
  unfolding child_takes
  interior-child e h =
      h ∙ sym (ap (λ x. cond x (leaf_takes es i lo hi s) (interior_takes es i lo hi s)) (ne_eqb (u16 s (i * 1024 + 2)) 1 (λ q. e (ek ∙ q))))
