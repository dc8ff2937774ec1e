-- Worked rows: names that are devices on Windows, and names that are not.
use Rattle.std.proofs.Common.{◌≡◌, true, false, codes, refl, []}
use Rattle.gix_ref_name.specs.DeviceNames.{is_device, has_device}

console : is_device (codes "CON") ≡ true
unfolding is_device
console = refl

extension : is_device (codes "aux.txt") ≡ true
unfolding is_device
extension = refl

lowercase : is_device (codes "nul") ≡ true
unfolding is_device
lowercase = refl

console_input : is_device (codes "conin$") ≡ true
unfolding is_device
console_input = refl

last_printer : is_device (codes "lpt9") ≡ true
unfolding is_device
last_printer = refl

first_port : is_device (codes "COM1") ≡ true
unfolding is_device
first_port = refl

first_printer : is_device (codes "LPT0") ≡ true
unfolding is_device
first_printer = refl

two_digits : is_device (codes "COM10") ≡ false
unfolding is_device
two_digits = refl

longer : is_device (codes "CONX") ≡ false
unfolding is_device
longer = refl

no_port : is_device (codes "COM0") ≡ false
unfolding is_device
no_port = refl

behind_letter : is_device (codes "xCON") ≡ false
unfolding is_device
behind_letter = refl

empty : is_device [] ≡ false
unfolding is_device
empty = refl

in_folder : has_device (codes "refs/heads/Aux.c/x") ≡ true
unfolding is_device
in_folder = refl

plain : has_device (codes "refs/heads/main") ≡ false
unfolding is_device
plain = refl
