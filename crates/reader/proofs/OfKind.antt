-- A byte is of a kind exactly where that is its kind.
use Rattle.std.proofs.Common.{◌≡◌, ℕ, Bool, Decides, arith}
use Rattle.std.proofs.lemmas.Bool.Decides.{nat_tests, same_from_decides}
use Rattle.text.specs.declared.Kind.{Kind}
use Rattle.text.specs.declared.Kind.TheVariants.{Single, Letter, Digit, Outside}
use Rattle.text.specs.Marks.{kind}
use Rattle.reader.specs.Meaning.{of_kind}

kind_decided : (k : Kind) (b : ℕ) → Decides (of_kind k b) (kind b ≡ k)
kind_decided Single b = (λ h. grind (arith, nat_tests), λ e. grind (arith, nat_tests))
kind_decided Letter b = (λ h. grind (arith, nat_tests), λ e. grind (arith, nat_tests))
kind_decided Digit b = (λ h. grind (arith, nat_tests), λ e. grind (arith, nat_tests))
kind_decided Outside b = (λ h. grind (arith, nat_tests), λ e. grind (arith, nat_tests))

pub kind_tested : (k : Kind) (b : ℕ) (r : Bool) → Decides r (kind b ≡ k) → r ≡ of_kind k b
kind_tested k b r h = same_from_decides r (of_kind k b) h (kind_decided k b)
