-- Step lemmas of the count by notes that are handed down. Relies on the definitions of Noted and on the contracts of notes.
use Rattle.std.specs.Prelude.{ℕ, suc, ◌+◌, ◌<◌, ◌≤◌, ◌≡◌, refl, List, [], ◌∷◌, ◌++◌, Bool, true, ◌&&◌, length, take, drop, get_or, IsSome, unwrap_or}
use Rattle.std.specs.List.{list_all, All}
use Rattle.image.specs.Prelude.{sym, ap, ap₂, ◌∙◌, append_assoc, arith, subst, drop-append-le, drop_at, and_comm, add-one}
use Rattle.image.specs.Bytes.{shared}
use Rattle.image.specs.Path.{owns}
use Rattle.image.specs.Entry as defined
use Rattle.octets.specs.Beginnings.{shared-left, shared-right, shared-take}
use Rattle.octets.specs.Order.{before-append, begins-split, and_assoc}
use Rattle.node.specs.Lent.{left_of}
use Rattle.node.specs.Search.Latest.{newest_among}
use Rattle.live_count.specs.Notes.Notes.{quiet, paired, silent, Empty, Gathered, none_covers}
use Rattle.live_count.specs.Notes.Steps.{uncovered-all, gathered-more}
use Rattle.live_count.specs.Notes.Paired.{all-from}
use Rattle.live_count.specs.Live.{holds_no_message, short}
use Rattle.live_count.specs.Walk.{stages_of, says_nothing, passes, passing, LiftsWithin, Deeper}
use Rattle.live_count.specs.Noted.{Tells, Standing, TrailNoted, Entered}
use Rattle.live_count.specs.declared.notes.Notes.{Notes}
use Rattle.live_count.specs.declared.trail.Stage.{Stage}
use Rattle.live_count.specs.declared.position.Position.{Position}

-- no message of a node of a trail is on the path of a key under the prefix
abbrev pub quiet_at : List ℕ → List ℕ → Stage → Bool
quiet_at prefix k x = none_covers (left_of x.entries) (drop x.lift prefix ++ k)

-- a path under the prefix passes the trail if it is short and nothing above is on its key
all-quiet : (xs : List Stage) (prefix k : List ℕ) → All (λ x. x.lift ≤ length prefix) xs → list_all (says_nothing (prefix ++ k)) xs ≡ list_all (quiet_at prefix k) xs
all-quiet [] prefix k h = refl
all-quiet (x ∷ xs) prefix k h =
    ap₂ (λ a b. a && b)
    (ap (λ r. holds_no_message (newest_among (left_of x.entries) r)) (drop-append-le x.lift prefix k (h 0 x (omega arith))) ∙ uncovered-all (left_of x.entries) (drop x.lift prefix ++ k))
    (all-quiet xs prefix k (λ i d l. h (suc i) d (omega arith)))

pub passes-quiet : (xs : List Stage) (prefix k : List ℕ) → All (λ x. x.lift ≤ length prefix) xs → passes xs (prefix ++ k) ≡ short (prefix ++ k) && list_all (quiet_at prefix k) xs
unfolding passes
passes-quiet xs prefix k h = ap (λ b. short (prefix ++ k) && b) (all-quiet xs prefix k h)

pub empty-quiet : (n : Notes) (k : List ℕ) → Empty n → silent n k ≡ true
empty-quiet n k e = ap (λ c. quiet (take (unwrap_or c 0) (paired n.clears n.paths)) k) e

-- the loop over the trail, from its last node on
pub trail-on : (lo hi after prefix : List ℕ) (xs : List Stage) (i j : ℕ) (d : Stage) (first now next : Notes) → i < length xs → i + 1 ≡ j → after ≡ drop (get_or xs i d).lift prefix
    → Gathered lo hi (λ k. list_all (quiet_at prefix k) (drop j xs)) first now
    → Gathered lo hi (λ k. none_covers (left_of (get_or xs i d).entries) (after ++ k)) now next
    → Gathered lo hi (λ k. list_all (quiet_at prefix k) (drop i xs)) first next
trail-on lo hi after prefix xs i j d first now next h q e f g =
    gathered-more lo hi (λ k. list_all (quiet_at prefix k) (drop j xs)) (λ k. none_covers (left_of (get_or xs i d).entries) (after ++ k)) (λ k. list_all (quiet_at prefix k) (drop i xs)) first now next f g
    (λ k o. all-from (quiet_at prefix k) xs i d h ∙ and_comm (quiet_at prefix k (get_or xs i d)) (list_all (quiet_at prefix k) (drop (suc i) xs))
    ∙ ap₂ (λ n w. list_all (quiet_at prefix k) (drop n xs) && none_covers (left_of (get_or xs i d).entries) (w ++ k)) (sym (add-one i) ∙ q) (sym e))

pub trail-told : (p : Position) (lo hi : List ℕ) (ys : List Stage) (n : ℕ) (first now : Notes) → LiftsWithin (length p.prefix) p.trail → Empty first
    → ys ≡ stages_of p.trail → n ≡ 0 → Gathered lo hi (λ k. list_all (quiet_at p.prefix k) (drop n ys)) first now
    → IsSome now.count → (k : List ℕ) → owns lo hi k ≡ true → passing p.trail (p.prefix ++ k) ≡ short (p.prefix ++ k) && silent now k
trail-told p lo hi ys n first now f e q m g s k o =
    passes-quiet (stages_of p.trail) p.prefix k f
    ∙ ap (λ x. short (p.prefix ++ k) && x)
    (ap₂ (λ i xs. list_all (quiet_at p.prefix k) (drop i xs)) (sym m) (sym q)
    ∙ sym (g.tells s k o ∙ ap (λ x. x && list_all (quiet_at p.prefix k) (drop n ys)) (empty-quiet first k e)))

pub trail-noted : (p r : Position) (lo hi : List ℕ) → r.prefix ≡ p.prefix → r.trail ≡ p.trail
    → (IsSome r.notes.count → (k : List ℕ) → owns lo hi k ≡ true → passing p.trail (p.prefix ++ k) ≡ short (p.prefix ++ k) && silent r.notes k) → TrailNoted p lo hi r
trail-noted p r lo hi e f h =
    record { prefix = e; trail = f; tells = λ s k o. ap₂ (λ t x. passing t (x ++ k)) f e ∙ h s k o ∙ ap (λ x. short (x ++ k) && silent r.notes k) (sym e) }

pub owns-under : (prefix lo hi k : List ℕ) → owns (prefix ++ lo) (prefix ++ hi) (prefix ++ k) ≡ owns lo hi k
unfolding owns
owns-under prefix lo hi k = rw (before-append prefix k lo, before-append prefix k hi)

-- coming to a node: the bytes that it lifts are read of its low pivot
module _ (above : Position) (lo hi : List ℕ) (k : ℕ) (ek : k ≡ length (shared lo hi)) where
  pub arrived-far : (after : List ℕ) → after ≡ take k lo → 64 < length (above.prefix ++ after) → 64 < length (above.prefix ++ shared lo hi)
  arrived-far after ea h = subst (λ x. 64 < length (above.prefix ++ x)) (ea ∙ ap (λ n. take n lo) ek ∙ shared-take lo hi) h

  module _ (after : List ℕ) (ea : after ≡ take k lo) where
    lift-is : after ≡ shared lo hi
    lift-is = ea ∙ ap (λ n. take n lo) ek ∙ shared-take lo hi

    low-split : shared lo hi ++ drop k lo ≡ lo
    low-split = ap (λ n. shared lo hi ++ drop n lo) ek ∙ begins-split (shared lo hi) lo (shared-left lo hi)

    high-split : shared lo hi ++ drop k hi ≡ hi
    high-split = ap (λ n. shared lo hi ++ drop n hi) ek ∙ begins-split (shared lo hi) hi (shared-right lo hi)

    -- what the node is handed, of its keys past what it lifts
    pub handed : (here : List ℕ) (first now : Notes) → here ≡ above.prefix ++ after → Empty first → Tells above lo hi
        → (IsSome above.notes.count → Gathered (drop k lo) (drop k hi) (λ x. silent above.notes (after ++ x)) first now) → IsSome above.notes.count
        → IsSome now.count → (x : List ℕ) → owns (drop k lo) (drop k hi) x ≡ true → passing above.trail (here ++ x) ≡ short (here ++ x) && silent now x
    handed here first now eh e h g some s x o =
        ap (λ y. passing above.trail y) longer ∙ h some (after ++ x) mine
        ∙ ap₂ (λ y b. short y && b) (sym longer) (sym ((g some).tells s x o ∙ ap (λ b. b && silent above.notes (after ++ x)) (empty-quiet first x e)))
      where
        longer : here ++ x ≡ above.prefix ++ (after ++ x)
        longer = ap (λ y. y ++ x) eh ∙ append_assoc above.prefix after x

        mine : owns lo hi (after ++ x) ≡ true
        mine =
            ap (λ y. owns lo hi (y ++ x)) lift-is
            ∙ ap₂ (λ y z. owns y z (shared lo hi ++ x)) (sym low-split) (sym high-split)
            ∙ owns-under (shared lo hi) (drop k lo) (drop k hi) x ∙ o

    pub arrived : (here : Position) → k ≤ length lo → k ≤ length hi → here.prefix ≡ above.prefix ++ after → here.trail ≡ above.trail
        → Tells here (drop k lo) (drop k hi) → Standing above lo hi k here
    arrived here l h p t n = record { lifts = ek; low = l; high = h; prefix = p ∙ ap (λ y. above.prefix ++ y) lift-is; trail = t; tells = n }

-- a node's own messages noted after what it was handed
pub entered : (es : List defined.Entry) (lo hi after : List ℕ) (here below : Position) → below.prefix ≡ here.prefix
    → Deeper es (length here.prefix) here.trail below.trail → after ≡ [] → Gathered lo hi (λ k. none_covers es (after ++ k)) here.notes below.notes → Entered es lo hi here below
entered es lo hi after here below e d z g =
    record {
      prefix = e;
      trail = d;
      tells = λ t s k o.
          ap (λ p. passing below.trail (p ++ k)) e ∙ d.test (here.prefix ++ k)
          ∙ ap₂ (λ x y. x && holds_no_message (newest_among es y)) (t (g.room s) k o) (drop_at here.prefix k (length here.prefix) refl)
          ∙ ap (λ y. (short (here.prefix ++ k) && silent here.notes k) && y) (uncovered-all es k)
          ∙ and_assoc (short (here.prefix ++ k)) (silent here.notes k) (none_covers es k)
          ∙ ap (λ x. short (here.prefix ++ k) && x) (sym (g.tells s k o ∙ ap (λ v. silent here.notes k && none_covers es (v ++ k)) z))
          ∙ ap (λ p. short (p ++ k) && silent below.notes k) (sym e);
    }
