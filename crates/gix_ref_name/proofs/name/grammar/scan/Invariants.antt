use Rattle.std.proofs.Common.{◌≡◌, ◌∷◌, ◌-◌, ◌≤◌, drop, take, ◌||◌, codes}
use Rattle.std.specs.List.{list_any, find}
use Rattle.gix_ref_hash.specs.Bytes.{occurs, components}
use Rattle.gix_ref_name.specs.NameGrammar.{is_invalid, is_dotted, is_locked}
use Rattle.gix_ref_name.proofs.Scans.{NoSlash}
use Rattle.gix_ref_name.proofs.name.grammar.scan.Given as goal

abbrev pub invariant-loop-i : goal.invariant-loop-i
invariant-loop-i l = record {
  valid : find is_invalid (drop l.i l.name) ≡ find is_invalid l.name;
  slashes : (l.seen.repeated_slash || occurs (codes "//") (l.previous ∷ drop l.i l.name)) ≡ occurs (codes "//") l.name;
  dots : (l.seen.repeated_dot || occurs (codes "..") (l.previous ∷ drop l.i l.name)) ≡ occurs (codes "..") l.name;
  portions : (l.seen.reflog_portion || occurs (codes "@{") (l.previous ∷ drop l.i l.name)) ≡ occurs (codes "@{") l.name;
  started : l.start ≤ l.i;
  open_part : NoSlash (take (l.i - l.start) (drop l.start l.name));
  dotted : (l.seen.starts_with_dot || list_any is_dotted (components (drop l.start l.name))) ≡ list_any is_dotted (components l.name);
  locked : (l.seen.lock_file_suffix || list_any is_locked (components (drop l.start l.name))) ≡ list_any is_locked (components l.name);
}
