-- A sound interior node, entry by entry: what check_children does.
use Rattle.std.specs.Prelude.{ℕ, ◌≡◌, refl, List, [], ◌∷◌, Bool, true, false, ◌&&◌, cond, drop}
use Rattle.image.specs.Prelude.{ap, subst, ◌∙◌, and-false, Option, none, some, arith}
use Rattle.image.specs.Bytes.{before, shared}
use Rattle.image.specs.Path.{owns}
use Rattle.image.specs.Entry as defined
use Rattle.image.specs.Image.{Tree, Forest, tree, Branch, Inside, message_then, messages_of, no_branches, branch_then, inside_of, forest_of}
use Rattle.image.specs.Meaning.{high_of}
use Rattle.laws.specs.Reading.Relative.{lifts}
use Rattle.path.specs.Shape.{Shape, feed}
use Rattle.laws.specs.Reading.SoundHere.{message_here, messages_here}
use Rattle.laws.specs.Reading.Visit.{onward, visit, visit_branches}

-- the messages that are left
unfoldable pub messages_run : Shape → List ℕ → List ℕ → Option (List defined.Entry) → Bool
messages_run sh lo hi none = false
messages_run sh lo hi (some []) = true
messages_run sh lo hi (some (defined.pair k v ∷ es)) = false
messages_run sh lo hi (some (defined.child i k ∷ es)) = false
messages_run sh lo hi (some (defined.message m ∷ es)) = message_here sh lo hi m && messages_run sh lo hi (some es)

messages-are : (sh : Shape) (lo hi : List ℕ) (es : List defined.Entry) (ms : List defined.Message) → messages_of es ≡ some ms → messages_run sh lo hi (some es) ≡ messages_here sh lo hi ms
unfolding messages_run messages_of messages_here
messages-are sh lo hi [] ms h = let q : ms ≡ [] = cc in rw q
messages-are sh lo hi (defined.pair k v ∷ es) ms h = let q : none ≡ some ms = h in let z : ◌≡◌ {A = ℕ} 0 1 = cc in absurd (omega arith)
messages-are sh lo hi (defined.child i k ∷ es) ms h = let q : none ≡ some ms = h in let z : ◌≡◌ {A = ℕ} 0 1 = cc in absurd (omega arith)
messages-are sh lo hi (defined.message m ∷ es) ms h = go (messages_of es) refl (messages-are sh lo hi es)
  where
    go : (o : Option (List defined.Message)) → messages_of es ≡ o → ((ts : List defined.Message) → messages_of es ≡ some ts → messages_run sh lo hi (some es) ≡ messages_here sh lo hi ts)
        → messages_run sh lo hi (some (defined.message m ∷ es)) ≡ messages_here sh lo hi ms
    go none e ih = let q : none ≡ some ms = unfold message_then in rw e at h in let z : ◌≡◌ {A = ℕ} 0 1 = cc in absurd (omega arith)
    go (some ts) e ih =
        let q : some (m ∷ ts) ≡ some ms = unfold message_then in rw e at h in
        let p : ms ≡ m ∷ ts = cc in
        rw p (ap (λ z. message_here sh lo hi m && z) (ih ts e))

pub messages-not : (sh : Shape) (lo hi : List ℕ) (es : List defined.Entry) → messages_of es ≡ none → messages_run sh lo hi (some es) ≡ false
unfolding messages_run messages_of
messages-not sh lo hi [] h = let z : ◌≡◌ {A = ℕ} 0 1 = cc in absurd (omega arith)
messages-not sh lo hi (defined.pair k v ∷ es) h = refl
messages-not sh lo hi (defined.child i k ∷ es) h = refl
messages-not sh lo hi (defined.message m ∷ es) h = go (messages_of es) refl (messages-not sh lo hi es)
  where
    go : (o : Option (List defined.Message)) → messages_of es ≡ o → (messages_of es ≡ none → messages_run sh lo hi (some es) ≡ false) → messages_run sh lo hi (some (defined.message m ∷ es)) ≡ false
    go none e ih = rw (ih e) (and-false (message_here sh lo hi m))
    go (some ts) e ih = let q : some (m ∷ ts) ≡ none = unfold message_then in rw e at h in let z : ◌≡◌ {A = ℕ} 0 1 = cc in absurd (omega arith)

pub onward-none : (o : Option (List ℕ)) → none ≡ onward o (λ after. none)
unfolding onward
onward-none none = refl
onward-none (some s) = refl

module _ (node : ℕ → Shape → List ℕ → List ℕ → List ℕ → Option (List ℕ)) (sh : Shape) (lo hi : List ℕ) where
  -- the child of number i between two pivots
  unfoldable pub child_run : ℕ → List ℕ → List ℕ → List ℕ → Option (List ℕ)
  child_run i low high seen = cond (owns lo hi low && before low high) (node i (feed sh (shared low high)) (drop (lifts low high) low) (drop (lifts low high) high) seen) none

  unfoldable pub branches_list : ℕ → List ℕ → List defined.Entry → List ℕ → Option (List ℕ)
  branches_list i low [] seen = child_run i low hi seen
  branches_list i low (defined.pair k v ∷ es) seen = none
  branches_list i low (defined.child j q ∷ es) seen = onward (child_run i low q seen) (λ after. branches_list j q es after)
  branches_list i low (defined.message m ∷ es) seen =
      onward (child_run i low hi seen) (λ after. cond (messages_run sh lo hi (some (defined.message m ∷ es))) (some after) none)

  -- the child of number i, and the entries that follow it
  unfoldable pub branches_run : ℕ → List ℕ → Option (List defined.Entry) → List ℕ → Option (List ℕ)
  branches_run i low none seen = none
  branches_run i low (some es) seen = branches_list i low es seen

  -- the step of the walk, also where the later entries do not read
  pub branches-step : (i : ℕ) (low : List ℕ) (j : ℕ) (q : List ℕ) (y : Option (List defined.Entry)) (seen : List ℕ)
      → branches_run i low (defined.entry_then (some (defined.child j q)) y) seen ≡ onward (child_run i low q seen) (λ after. branches_run j q y after)
  unfolding branches_run branches_list defined.entry_then
  branches-step i low j q none seen = onward-none (child_run i low q seen)
  branches-step i low j q (some es) seen = refl

  pub branches-end : (i : ℕ) (low seen : List ℕ) → branches_run i low (some []) seen ≡ child_run i low hi seen
  unfolding branches_run branches_list
  branches-end i low seen = refl

-- the walk is the definition's walk, where the entries are children and then messages
onward-ext : (o : Option (List ℕ)) (f g : List ℕ → Option (List ℕ)) → ((a : List ℕ) → f a ≡ g a) → onward o f ≡ onward o g
unfolding onward
onward-ext none f g h = refl
onward-ext (some s) f g h = h s

onward-chain : (b : Bool) (W : Option (List ℕ)) (G M : List ℕ → Option (List ℕ)) → onward (cond b W none) (λ a. onward (G a) M) ≡ onward (cond b (onward W G) none) M
unfolding onward
onward-chain true none G M = refl
onward-chain true (some s) G M = refl
onward-chain false W G M = refl

onward-last : (b : Bool) (W : Option (List ℕ)) (M : List ℕ → Option (List ℕ)) → onward (cond b W none) M ≡ onward (cond b (onward W (λ a. some a)) none) M
unfolding onward
onward-last true none M = refl
onward-last true (some s) M = refl
onward-last false W M = refl

pub onward-some : (o : Option (List ℕ)) → o ≡ onward o (λ a. cond true (some a) none)
unfolding onward
onward-some none = refl
onward-some (some s) = refl

module _ (node : ℕ → Shape → List ℕ → List ℕ → List ℕ → Option (List ℕ)) (sh : Shape) (lo hi : List ℕ) (n : ℕ) (below : ℕ → Tree)
    (alike : (i : ℕ) (z : Shape) (a b seen : List ℕ) → node i z a b seen ≡ visit (below i) n z a b seen) where
  abbrev branches : ℕ → List ℕ → List Branch → Forest
  branches i low ks = tree low (below i) (forest_of below ks)

  abbrev ends : List defined.Message → List ℕ → Option (List ℕ)
  ends ms after = cond (messages_here sh lo hi ms) (some after) none

  -- the child in hand, then the others
  child-more : (i : ℕ) (low : List ℕ) (j : ℕ) (q : List ℕ) (ks : List Branch) (seen : List ℕ) (M : List ℕ → Option (List ℕ))
      → onward (child_run node sh lo hi i low q seen) (λ a. onward (visit_branches (branches j q ks) n sh lo hi a) M)
      ≡ onward (visit_branches (branches i low (record { number = j; pivot = q } ∷ ks)) n sh lo hi seen) M
  unfolding child_run visit_branches high_of forest_of
  child-more i low j q ks seen M =
      ap (λ v. onward (cond (owns lo hi low && before low q) v none) (λ a. onward (visit_branches (branches j q ks) n sh lo hi a) M)) (alike i _ _ _ seen)
      ∙ onward-chain (owns lo hi low && before low q) _ (λ a. visit_branches (branches j q ks) n sh lo hi a) M

  child-last : (i : ℕ) (low seen : List ℕ) (M : List ℕ → Option (List ℕ))
      → onward (child_run node sh lo hi i low hi seen) M ≡ onward (visit_branches (branches i low []) n sh lo hi seen) M
  unfolding child_run visit_branches high_of forest_of
  child-last i low seen M =
      ap (λ v. onward (cond (owns lo hi low && before low hi) v none) M) (alike i _ _ _ seen)
      ∙ onward-last (owns lo hi low && before low hi) _ M

  no_more : (after : List ℕ) → cond true (some after) none ≡ ends [] after
  unfolding messages_here
  no_more after = refl

  pub branches-are : (es : List defined.Entry) (x : Inside) → inside_of es ≡ some x → (i : ℕ) (low seen : List ℕ)
      → branches_list node sh lo hi i low es seen ≡ onward (visit_branches (branches i low x.branches) n sh lo hi seen) (ends x.messages)
  unfolding branches_list inside_of
  branches-are [] x h i low seen =
      let p : (record { branches = []; messages = [] }) ≡ x = cc in
      subst (λ (y : Inside). child_run node sh lo hi i low hi seen ≡ onward (visit_branches (branches i low y.branches) n sh lo hi seen) (ends y.messages)) p
      (onward-some (child_run node sh lo hi i low hi seen)
      ∙ onward-ext (child_run node sh lo hi i low hi seen) (λ a. cond true (some a) none) (ends []) no_more
      ∙ child-last i low seen (ends []))
  branches-are (defined.pair k v ∷ es) x h i low seen = let q : none ≡ some x = h in let z : ◌≡◌ {A = ℕ} 0 1 = cc in absurd (omega arith)
  branches-are (defined.child j q ∷ es) x h i low seen = go (inside_of es) refl (λ y e a. branches-are es y e j q a)
    where
      go : (o : Option Inside) → inside_of es ≡ o
          → ((y : Inside) → inside_of es ≡ some y → (a : List ℕ) → branches_list node sh lo hi j q es a ≡ onward (visit_branches (branches j q y.branches) n sh lo hi a) (ends y.messages))
          → onward (child_run node sh lo hi i low q seen) (λ after. branches_list node sh lo hi j q es after) ≡ onward (visit_branches (branches i low x.branches) n sh lo hi seen) (ends x.messages)
      go none e ih = let w : none ≡ some x = unfold branch_then in rw e at h in let z : ◌≡◌ {A = ℕ} 0 1 = cc in absurd (omega arith)
      go (some y) e ih =
          let w : some (record { branches = record { number = j; pivot = q } ∷ y.branches; messages = y.messages }) ≡ some x = unfold branch_then in rw e at h in
          let p : (record { branches = record { number = j; pivot = q } ∷ y.branches; messages = y.messages }) ≡ x = cc in
          subst (λ (z : Inside). onward (child_run node sh lo hi i low q seen) (λ after. branches_list node sh lo hi j q es after) ≡ onward (visit_branches (branches i low z.branches) n sh lo hi seen) (ends z.messages)) p
          (onward-ext (child_run node sh lo hi i low q seen) (λ after. branches_list node sh lo hi j q es after) (λ a. onward (visit_branches (branches j q y.branches) n sh lo hi a) (ends y.messages)) (ih y e)
          ∙ child-more i low j q y.branches seen (ends y.messages))
  branches-are (defined.message m ∷ es) x h i low seen = go (messages_of (defined.message m ∷ es)) refl
    where
      go : (o : Option (List defined.Message)) → messages_of (defined.message m ∷ es) ≡ o
          → onward (child_run node sh lo hi i low hi seen) (λ after. cond (messages_run sh lo hi (some (defined.message m ∷ es))) (some after) none)
          ≡ onward (visit_branches (branches i low x.branches) n sh lo hi seen) (ends x.messages)
      go none e = let w : none ≡ some x = unfold no_branches in rw e at h in let z : ◌≡◌ {A = ℕ} 0 1 = cc in absurd (omega arith)
      go (some ms) e =
          let w : some (record { branches = []; messages = ms }) ≡ some x = unfold no_branches in rw e at h in
          let p : (record { branches = []; messages = ms }) ≡ x = cc in
          subst (λ (z : Inside). onward (child_run node sh lo hi i low hi seen) (λ after. cond (messages_run sh lo hi (some (defined.message m ∷ es))) (some after) none) ≡ onward (visit_branches (branches i low z.branches) n sh lo hi seen) (ends z.messages)) p
          (onward-ext (child_run node sh lo hi i low hi seen) (λ after. cond (messages_run sh lo hi (some (defined.message m ∷ es))) (some after) none) (ends ms)
          (λ a. ap (λ b. cond b (some a) none) (messages-are sh lo hi (defined.message m ∷ es) ms e))
          ∙ child-last i low seen (ends ms))
