-- Namespaces (`gitnamespaces`): what they expand to, and names inside of one.
use Rattle.std.specs.Prelude.{ℕ, List, ◌++◌, codes, if◌then◌else◌, is_none}
use Rattle.std.specs.List.{flat_map}
use Rattle.gix_ref_hash.specs.Bytes.{components, without_front}
use Rattle.gix_ref_name.specs.NameGrammar.{partial_error}
use Rattle.gix_ref_name.specs.declared.namespace.Namespace.{Namespace}

abbrev pub namespace_bytes : Namespace → List ℕ
namespace_bytes n = n.bytes.items

-- `refs/namespaces/`, the component and a slash
abbrev pub expanded_component : List ℕ → List ℕ
expanded_component c = codes "refs/namespaces/" ++ c ++ codes "/"

-- that for each component of the name
abbrev pub expanded : List ℕ → List ℕ
expanded n = flat_map expanded_component (components n)

-- the name less the namespace, unless it is not in it or the rest is no partial name
unfoldable pub stripped : List ℕ → List ℕ → List ℕ
stripped namespace n =
    if is_none (partial_error (without_front namespace n)) then without_front namespace n else n
