-- What make and its writer leave: the writer's two nodes, and make's two ways out, meet their contracts. Relies on Emptied.
use Rattle.std.specs.Prelude.{ℕ, suc, ◌/◌, ◌≡◌, refl, List, [], Bool, true, false, length, Ok, Err}
use Rattle.image.specs.Prelude.{sym, ap, subst, ◌∙◌, arith}
use Rattle.image.specs.Image.{whole_nodes}
use Rattle.image.specs.Calls.{first_no}
use Rattle.image.specs.Contract.{make_no, Made, MakeMeets}
use Rattle.laws.specs.Page.{page, head_page}
use Rattle.laws.specs.WriteNode.{write_node}
use Rattle.image.specs.Answers.{outcome_number, refusal_number}
use Rattle.image.specs.declared.Refusal.{Refusal}
use Rattle.make.specs.Emptied.{emptied, emptied-length, emptied-made}

pub writes-empty : (s s₁ s₂ : List ℕ) → s₁ ≡ write_node s 0 (head_page (length s / 1024) 1 1 0) → s₂ ≡ write_node s₁ 1 (page 1 1 []) → s₂ ≡ emptied s
unfolding emptied
writes-empty s s₁ s₂ e f = f ∙ ap (λ x. write_node x 1 (page 1 1 [])) e

-- the two ways out
pub make-refused : (s : List ℕ) (b : Bool) → b ≡ whole_nodes (length s) → b ≡ false → MakeMeets s (outcome_number (Err Refusal.Length)) s
unfolding make_no first_no outcome_number refusal_number
make-refused s b e f =
    let no : make_no (length s) ≡ 1 = rw (sym e ∙ f) refl in
    record { size = refl; answer = sym no; stays = λ k h. refl; leaves = λ h. absurd (let z : ◌≡◌ {A = ℕ} 1 0 = sym no ∙ h in omega arith) }

-- s₀ is the store when all its bytes are zero
pub make-done : (s s₀ s' : List ℕ) (b : Bool) → b ≡ whole_nodes (length s) → b ≡ true → length s₀ ≡ length s → s' ≡ emptied s₀
    → MakeMeets s (outcome_number (Ok tt)) s'
unfolding make_no first_no outcome_number
make-done s s₀ s' b e f z g =
    let yes : make_no (length s) ≡ 0 = rw (sym e ∙ f) refl in
    let whole : whole_nodes (length s₀) ≡ true = ap whole_nodes z ∙ sym e ∙ f in
    record {
      size = ap length g ∙ emptied-length s₀ whole ∙ z;
      answer = sym yes;
      stays = λ k h. absurd (let y : ◌≡◌ {A = ℕ} 0 (suc k) = sym yes ∙ h in omega arith);
      leaves = λ h. subst Made (sym g) (emptied-made s₀ whole);
    }

pub still-whole : (len len₀ : ℕ) (b : Bool) → b ≡ whole_nodes len → b ≡ true → len₀ ≡ len → whole_nodes len₀ ≡ true
still-whole len len₀ b e f z = ap whole_nodes z ∙ sym e ∙ f
