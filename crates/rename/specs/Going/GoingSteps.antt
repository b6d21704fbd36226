-- The steps of the questions of a move.
-- Relies on specs/Prepare/Moved (each refusal's contract).
use Rattle.std.specs.Prelude.{ℕ, ◌≡◌, refl, List, Bool, true, false, not, cond, Result, Ok, Err}
use Rattle.image.specs.Prelude.{sym, subst}
use Rattle.image.specs.Bytes.{same}
use Rattle.image.specs.Path.{well_formed, may_move}
use Rattle.image.specs.Table.{rows_below, moved, every_key}
use Rattle.image.specs.Sound.{table_of}
use Rattle.image.specs.Calls.{is_empty}
use Rattle.image.specs.declared.Refusal.{Refusal}
use Rattle.octets.specs.Order.{same-eq}
use Rattle.questions.specs.Acted.{Passed}
use Rattle.rename.specs.Prepare.Moved as moves
use Rattle.rename.specs.declared.going.Going.{Going}
use Rattle.rename.specs.Going.Going.{going_of, Accepted, AskedMove}

-- questions 1 and 2 are a yes: the later ones decide
module _ (s w from to : List ℕ) (f : Passed s w) where
  decided : AskedMove s w from to (going_of from to (table_of s))
  unfolding going_of
  decided =
      go (well_formed from) refl (well_formed to) refl (may_move from to) refl (not (is_empty (rows_below from (table_of s)))) refl
      (every_key well_formed (moved from to (table_of s))) refl (same from to) refl
    where
      all_yes : true ≡ well_formed from → true ≡ well_formed to → true ≡ may_move from to → true ≡ not (is_empty (rows_below from (table_of s)))
          → true ≡ every_key well_formed (moved from to (table_of s)) → Accepted s w from to
      all_yes a b c d e =
          record {
            passed = f;
            number = moves.may-go s w f from to true a refl true b refl true c refl true d refl true e refl;
            formed_from = sym a;
            formed_to = sym b;
            may = sym c;
            nine = sym e;
          }

      go : (a : Bool) → a ≡ well_formed from → (b : Bool) → b ≡ well_formed to → (c : Bool) → c ≡ may_move from to → (d : Bool) → d ≡ not (is_empty (rows_below from (table_of s)))
          → (e : Bool) → e ≡ every_key well_formed (moved from to (table_of s)) → (x : Bool) → x ≡ same from to
          → AskedMove s w from to
          (cond a (cond b (cond c (cond d (cond e (cond x (Ok Going.Stays) (Ok Going.Goes)) (Err Refusal.BecomesMalformed)) (Err Refusal.Absent))
          (Err Refusal.Nested)) (Err Refusal.Malformed)) (Err Refusal.Malformed))
      go false a b b-is c c-is d d-is e e-is x x-is = unfold AskedMove in moves.from-malformed s w f from to false a refl
      go true a false b c c-is d d-is e e-is x x-is = unfold AskedMove in moves.to-malformed s w f from to true a refl false b refl
      go true a true b false c d d-is e e-is x x-is = unfold AskedMove in moves.nested s w f from to true a refl true b refl false c refl
      go true a true b true c false d e e-is x x-is = unfold AskedMove in moves.absent s w f from to true a refl true b refl true c refl false d refl
      go true a true b true c true d false e x x-is =
          unfold AskedMove in moves.becomes-malformed s w f from to true a refl true b refl true c refl true d refl false e refl
      go true a true b true c true d true e true x = unfold AskedMove in (all_yes a b c d e, same-eq from to (sym x))
      go true a true b true c true d true e false x = unfold AskedMove in (all_yes a b c d e, sym x)

  pub is-fit : (g : Result Going Refusal) → g ≡ going_of from to (table_of s) → AskedMove s w from to g
  is-fit g e = subst (AskedMove s w from to) (sym e) decided
