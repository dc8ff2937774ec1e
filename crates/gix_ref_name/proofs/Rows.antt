-- Worked rows: what the table of rules says of some names.
use Rattle.std.proofs.Common.{◌≡◌, Some, None, codes, refl, []}
use Rattle.gix_ref_name.specs.declared.name.error.Error.TheVariants.{Empty, InvalidByte, Asterisk, StartsWithSlash, EndsWithSlash, RepeatedSlash, StartsWithDot, EndsWithDot, RepeatedDot, LockFileSuffix, ReflogPortion, SingleAt, SomeLowercase}
use Rattle.gix_ref_name.specs.NameGrammar.{partial_error, full_error}

valid_head : full_error (codes "HEAD") ≡ None
unfolding full_error partial_error
valid_head = refl

valid_dash : full_error (codes "refs/heads/-x") ≡ None
unfolding full_error partial_error
valid_dash = refl

valid_at : full_error (codes "refs/heads/@") ≡ None
unfolding full_error partial_error
valid_at = refl

valid_dot : full_error (codes "refs/a./b") ≡ None
unfolding full_error partial_error
valid_dot = refl

main_partial : partial_error (codes "main") ≡ None
unfolding partial_error
main_partial = refl

main_full : full_error (codes "main") ≡ Some SomeLowercase
unfolding full_error partial_error
main_full = refl

fetch_head : full_error (codes "FETCH-HEAD") ≡ Some SomeLowercase
unfolding full_error partial_error
fetch_head = refl

empty : partial_error [] ≡ Some Empty
unfolding partial_error
empty = refl

space : partial_error (codes "a b") ≡ Some (InvalidByte 32)
unfolding partial_error
space = refl

star : partial_error (codes "a*b") ≡ Some Asterisk
unfolding partial_error
star = refl

slash_first : partial_error (codes "/a") ≡ Some StartsWithSlash
unfolding partial_error
slash_first = refl

slash_last : partial_error (codes "a/") ≡ Some EndsWithSlash
unfolding partial_error
slash_last = refl

slashes : partial_error (codes "refs//a") ≡ Some RepeatedSlash
unfolding partial_error
slashes = refl

dot_first : partial_error (codes "refs/.a") ≡ Some StartsWithDot
unfolding partial_error
dot_first = refl

dot_last : partial_error (codes "refs/a.") ≡ Some EndsWithDot
unfolding partial_error
dot_last = refl

dots : partial_error (codes "a..b") ≡ Some RepeatedDot
unfolding partial_error
dots = refl

lock : partial_error (codes "refs/heads/x.lock") ≡ Some LockFileSuffix
unfolding partial_error
lock = refl

portion : partial_error (codes "refs/@{x") ≡ Some ReflogPortion
unfolding partial_error
portion = refl

at : partial_error (codes "@") ≡ Some SingleAt
unfolding partial_error
at = refl
