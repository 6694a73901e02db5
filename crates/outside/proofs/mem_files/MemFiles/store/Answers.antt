use Rattle.std.proofs.Common.{◌≡◌, [], ◌∷◌, ◌++◌, Some, None, refl, rules, arith}
use Rattle.std.proofs.lemmas.Grind.{common_steps}
use Rattle.std.specs.List.{position}
use Rattle.std.specs.Str.{bytes_eq}
use Rattle.outside.specs.Disk.{File}
use Rattle.outside.proofs.Contents.{Rewrites-set, Rewrites-push}
use Rattle.outside.proofs.mem_files.MemFiles.store.Goals as goal

pub returns-in-Some-clause-ok : goal.returns-in-Some-clause-ok
returns-in-Some-clause-ok c =
    let file : File = record { name = c.args.name.now; bytes = c.args.bytes.items } in
    let at : position (λ (f : File). bytes_eq f.name c.args.name.now) c.self.inside.files.items ≡ Some c.in-Some.place = search rules in
    rw (← c.self.view_is, c.in_ok-file.ensures) (Rewrites-set c.self.inside.files.items c.in-Some.place file c.args.name.now at refl)

pub returns-in_ok-map_err-in-None-clause-ok : goal.returns-in_ok-map_err-in-None-clause-ok
returns-in_ok-map_err-in-None-clause-ok c =
    let file : File = record { name = c.args.name.now; bytes = c.args.bytes.items } in
    let absent : position (λ (f : File). bytes_eq f.name c.args.name.now) c.self.inside.files.items ≡ None = search rules in
    let pushed : c.push.new.self.items ≡ c.self.inside.files.items ++ file ∷ [] = grind (arith, common_steps) in
    rw (← c.self.view_is, pushed) (Rewrites-push c.self.inside.files.items file c.args.name.now absent refl)
