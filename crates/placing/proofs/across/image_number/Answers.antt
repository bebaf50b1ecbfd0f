use Rattle.std.proofs.Common.{◌≡◌, ℕ, ◌+◌, ◌*◌, ◌<◌, Some, None, Option, unwrap_or, refl, arith}
use Rattle.group.specs.Group.{mate_of}
use Rattle.placing.specs.Codes.{image_of}
use Rattle.group.proofs.LawfulSheet.{mate_inside}
use Rattle.placing.proofs.across.image_number.Goals as goal

image_is : (n a : ℕ) (told : Option ℕ) → unwrap_or told (n + a) ≡ image_of n a told
image_is n a (Some b) = refl
image_is n a None = refl

image_inside : (n a : ℕ) (told : Option ℕ) → a < n → ((b : ℕ) → told ≡ Some b → b < n) → image_of n a told < 2 * n
image_inside n a (Some b) low mate = let inside : b < n = mate b refl in omega arith
image_inside n a None low mate = omega arith

pub returns : goal.returns
returns c =
    let group = c.args.group.now in
    let a = c.args.a in
    let told = mate_of group a in
    let by_told = image_is group.count a told in
    let same : c.unwrap_or.result ≡ image_of group.count a told = cc (by_told, c.unwrap_or.ensures, c.count.ensures, c.partner.ensures) in
    record { value = same; node = rw same (image_inside group.count a told c.requires (λ b so. mate_inside group a b so)) }
