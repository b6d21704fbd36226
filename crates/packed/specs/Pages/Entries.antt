-- Child entries put into a page: the marked rows one after the other.
use Rattle.std.specs.Prelude.{ℕ, zero, suc, ◌+◌, ◌-◌, ◌≤◌, ◌<◌, ◌≡◌, refl, List, [], ◌∷◌, ◌++◌, drop, take}
use Rattle.image.specs.Prelude.{sym, ap, ◌∙◌, append_assoc, append-nil, arith, take-nil}
use Rattle.image.specs.Entry.{child}
use Rattle.image.specs.Image.{Branch}
use Rattle.laws.specs.Encode.{bytes_of, bytes_of_all}
use Rattle.packed.specs.Form.Marks.{branch_entries}
use Rattle.packed.specs.Rows.Branches.{mark_at, low_of_row, branches_of, branches-take, branches-pass}
use Rattle.packed.specs.Rows.Remark.{branches-split}

-- the bytes of the marked ones of n rows from row i
unfoldable pub branch_bytes : ℕ → ℕ → List ℕ → ℕ → List ℕ
branch_bytes k n area i = bytes_of_all (branch_entries k (branches_of n area i))

entries-append : (k : ℕ) (xs ys : List Branch) → bytes_of_all (branch_entries k (xs ++ ys)) ≡ bytes_of_all (branch_entries k xs) ++ bytes_of_all (branch_entries k ys)
unfolding branch_entries bytes_of_all
entries-append k [] ys = refl
entries-append k (x ∷ xs) ys =
    ap (λ l. bytes_of (child x.number (drop k x.pivot)) ++ l) (entries-append k xs ys)
    ∙ sym (append_assoc (bytes_of (child x.number (drop k x.pivot))) (bytes_of_all (branch_entries k xs)) (bytes_of_all (branch_entries k ys)))

pub bytes-step : (k to : ℕ) (area : List ℕ) (i : ℕ) → i < to → branch_bytes k (to - i) area i ≡ branch_bytes k 1 area i ++ branch_bytes k (to - (i + 1)) area (i + 1)
unfolding branch_bytes
bytes-step k to area i h =
    let z : to - i ≡ 1 + (to - (i + 1)) = omega arith in
    ap (λ n. bytes_of_all (branch_entries k (branches_of n area i))) z
    ∙ ap (λ ks. bytes_of_all (branch_entries k ks)) (branches-split 1 (to - (i + 1)) area i)
    ∙ entries-append k (branches_of 1 area i) (branches_of (to - (i + 1)) area (i + 1))

pub bytes-done : (k to : ℕ) (area : List ℕ) (i : ℕ) → to ≤ i → branch_bytes k (to - i) area i ≡ []
unfolding branch_bytes branches_of branch_entries bytes_of_all
bytes-done k to area i h = let z : to - i ≡ 0 = omega arith in rw z refl

-- one row
pub bytes-none : (k : ℕ) (area : List ℕ) (i : ℕ) → mark_at area i ≡ 0 → branch_bytes k 1 area i ≡ []
bytes-none k area i h = unfold branch_bytes in (ap (λ ks. bytes_of_all (branch_entries k ks)) (branches-pass 0 area i h) ∙ (unfold branches_of branch_entries bytes_of_all in refl))

pub bytes-some : (k : ℕ) (area : List ℕ) (i : ℕ) → (mark_at area i ≡ 0 → ⊥) → branch_bytes k 1 area i ≡ bytes_of (child (mark_at area i) (drop k (low_of_row area i)))
bytes-some k area i h = go (mark_at area i) refl
  where
    one : 1 ≤ mark_at area i → branch_bytes k 1 area i ≡ bytes_of (child (mark_at area i) (drop k (low_of_row area i)))
    one o = unfold branch_bytes branches_of branch_entries bytes_of_all in
        (ap (λ ks. bytes_of_all (branch_entries k ks)) (branches-take 0 area i o) ∙ append-nil (bytes_of (child (mark_at area i) (drop k (low_of_row area i)))))

    go : (v : ℕ) → mark_at area i ≡ v → branch_bytes k 1 area i ≡ bytes_of (child (mark_at area i) (drop k (low_of_row area i)))
    go zero e = absurd (h e)
    go (suc v) e = one (omega arith)

pub drop-take : (k n : ℕ) (l : List ℕ) → k ≤ n → drop k (take n l) ≡ take (n - k) (drop k l)
drop-take zero n l h = let z : n ≡ n - 0 = omega arith in ap (λ q. take q l) z
drop-take (suc k) zero l h = absurd (omega arith)
drop-take (suc k) (suc n) [] h = sym (take-nil (suc n - suc k))
drop-take (suc k) (suc n) (a ∷ l) h = let z : n - k ≡ suc n - suc k = omega arith in drop-take k n l (omega arith) ∙ ap (λ q. take q (drop k l)) z
