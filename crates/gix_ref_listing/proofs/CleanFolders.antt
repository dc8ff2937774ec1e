-- A clean folder has a name.
use Rattle.std.proofs.Common.{◌≡◌, ◌≢◌, Bool, true, false, ◌&&◌, ℕ, [], ◌∷◌, Vec, Option}
use Rattle.std.specs.declared.alloc.Global.{Global}
use Rattle.gix_ref_hash.specs.Bytes.{without_front}
use Rattle.gix_ref_files.specs.Tree.{Path}
use Rattle.gix_ref_lookup.specs.CleanPaths.{is_clean, are_clean, common_of}

both : (a b : Bool) → (a && b) ≡ true → (a ≡ true) × (b ≡ true)
both true true h = (h, h)
both true false h = absurd (cc)
both false b h = absurd (cc)

clean_some : (path : Path) → is_clean path ≡ true → path ≢ []
unfolding without_front
clean_some [] clean = λ none. absurd (cc)
clean_some (x ∷ path) clean = λ none. absurd (cc)

-- both folders of a store
pub clean_named : (git : Vec ℕ Global) (common : Option (Vec ℕ Global)) → are_clean git common ≡ true → (git.items ≢ []) × (common_of git common ≢ [])
clean_named git common clean =
    let each = both (is_clean git.items) (is_clean (common_of git common)) clean in
    (clean_some git.items each.0, clean_some (common_of git common) each.1)
