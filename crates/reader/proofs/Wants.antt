-- One want that is met.
use Rattle.std.proofs.Common.{◌≡◌, ℕ, ◌+◌, true, List, [], ◌∷◌, drop, sym, refl, ap, ◌∙◌}
use Rattle.std.proofs.lemmas.List.{drop-drop}
use Rattle.text.specs.Marks.{Mark, next, width}
use Rattle.text.specs.Forms as forms
use Rattle.text.specs.Forms.{got, meets, keeps, follow}
use Rattle.text.proofs.Forms.{follow_step}

pub met_one :
    (w : forms.Want) (xs : List ℕ) (at stop : ℕ) (m : Mark)
    → m ≡ next (drop at xs) → stop ≡ at + width (drop at xs) → meets w m ≡ true → follow (w ∷ []) at (drop at xs) ≡ got (keeps w m []) stop (drop stop xs)
met_one w xs at stop m e l t =
    let n = width (drop at xs) in
    follow_step w [] at (drop at xs) m n [] stop (drop stop xs) (sym e) refl t
    (ap (λ z. got [] z (drop n (drop at xs))) (sym l) ∙ ap (λ z. got [] stop z) (drop-drop n at xs ∙ ap (λ z. drop z xs) (sym l)))
