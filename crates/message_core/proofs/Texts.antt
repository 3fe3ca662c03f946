-- std's test of UTF-8
use Rattle.std.proofs.Common.{◌≡◌, ℕ, Bool, true, false, List, Result, Ok, Err, refl, sym}
use Rattle.std.specs.Prelude.{MatchResult, is_ok}
use Rattle.std.specs.Str.{IsUtf8, is_utf8}
use Rattle.std.proofs.lemmas.Str.{IsUtf8-from_is_utf8, is_utf8-from_IsUtf8}

false_from : (b : Bool) → (b ≡ true → ⊥) → false ≡ b
false_from true refuted = absurd (refuted refl)
false_from false refuted = refl

pub text_tested : (X E : Type 0) (P : X → Type 0) (Q : E → Type 0) (bytes : List ℕ) (r : Result X E) → MatchResult r (λ s. P s × IsUtf8 bytes) (λ e. (IsUtf8 bytes → ⊥) × Q e) → is_ok r ≡ is_utf8 bytes
text_tested X E P Q bytes (Ok s) h = sym (is_utf8-from_IsUtf8 bytes h.1)
text_tested X E P Q bytes (Err e) h = false_from (is_utf8 bytes) (λ t. h.0 (IsUtf8-from_is_utf8 bytes t))
