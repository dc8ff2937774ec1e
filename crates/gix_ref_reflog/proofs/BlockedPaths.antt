-- What is at a path shows whether a file is in the path.
use Rattle.std.proofs.lemmas.Bool.{false≢true}
use Rattle.std.proofs.Common.{◌≡◌, List, [], ◌∷◌, Bool, true, false, Option, Some, None, refl, sym, ap, ◌∙◌}
use Rattle.std.specs.Prelude.{◌&&◌, ◌||◌, is_some}
use Rattle.std.specs.List.{list_all, list_any}
use Rattle.gix_ref_files.specs.Tree.{Tree, Path, Content, fronts, is_blocked, is_file, is_folder, node_of, node_at, IsShaped}
use Rattle.gix_ref_files.specs.Tree.Content.{File, Folder}
use Rattle.gix_ref_files.specs.declared.files.Node.{Node}
use Rattle.gix_ref_files.specs.declared.files.Node.TheVariants as nodes
use Rattle.gix_ref_files.specs.contracts.files.Node.{the_type}
use denote.Enum.Bare.{sameb}

-- folders are no files
no_files : (T : Tree) (fs : List Path) → list_all (λ f. is_folder (T f)) fs ≡ true → list_any (λ f. is_file (T f)) fs ≡ false
no_files T [] all = refl
no_files T (f ∷ fs) all = by (T f) (list_all (λ f. is_folder (T f)) fs) (list_any (λ f. is_file (T f)) fs) (no_files T fs) all
  where
    by : (c : Option Content) (folders files : Bool) → (folders ≡ true → files ≡ false) → (is_folder c && folders) ≡ true → (is_file c || files) ≡ false
    by (Some (File bytes)) folders files rest all = sym all
    by (Some Folder) folders files rest all = rest all
    by None folders files rest all = absurd (false≢true all)

pub blocked_node : (T : Tree) (p : Path) → IsShaped T → (node : Node) → node ≡ node_at T p → sameb the_type node nodes.Blocked ≡ is_blocked T p
blocked_node T p shaped node is = ap (λ (n : Node). sameb the_type n nodes.Blocked) is ∙ by (T p) (is_blocked T p) (λ there. no_files T (fronts p) (shaped p there))
  where
    by : (c : Option Content) (b : Bool) → (is_some c ≡ true → b ≡ false) → sameb the_type (node_of c b) nodes.Blocked ≡ b
    by (Some (File bytes)) b way = sym (way refl)
    by (Some Folder) b way = sym (way refl)
    by None true way = refl
    by None false way = refl
