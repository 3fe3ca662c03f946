-- The law of cargoes holds of parcels: a content is never longer than the whole encoding.
use Rattle.std.proofs.Common.{◌≡◌, ℕ, ◌+◌, ◌≤◌, ◌++◌, length, arith, ap}
use Rattle.std.proofs.lemmas.List.{length-append}
use Rattle.std.specs.Int.{w32, to_be_bytes}
use Rattle.message_core.specs.Spelling.{content, front}
use Rattle.txn_core.specs.Shown.{Shown, content_of, missing, IsHere}
use Rattle.txn_core.specs.Parcels.{shown, load_of}
use Rattle.txn_core.specs.declared.parcels.Parcel.{Parcel}

-- where the body is here, the content is the whole encoding
pub content_of-here : (p : Shown) → IsHere p → content_of p ≡ content p.message
content_of-here p here =
    let none : length p.message.body + missing p ≡ length p.message.body = omega arith in
    ap (λ n. (front p.message ++ to_be_bytes w32 n) ++ p.message.body) none

-- the content is as long as what is here of the encoding
pub length-content_of : (p : Shown) → length (content_of p) ≡ length (content p.message)
length-content_of p = first_of (simp length-append, omega (arith, length-append {A = ℕ}), grind (arith, length-append))

-- a content is never longer than the whole encoding
pub content_fits : (p : Parcel) → length (load_of p).content ≤ (load_of p).size
content_fits p = omega (arith, length-content_of (shown p), p.whole.fits)
