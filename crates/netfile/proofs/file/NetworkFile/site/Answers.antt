use Rattle.std.proofs.Common.{◌≡◌, map, sym, ap, ◌∙◌, rules}
use Rattle.std.proofs.lemmas.Option.{slice_get-map}
use Rattle.netfile.specs.Layout.{site_from}
use Rattle.netfile.specs.Meaning.{sites_in}
use Rattle.netfile.proofs.Chunks.{sites_of_records, lent_there}
use Rattle.netfile.proofs.file.NetworkFile.site.Goals as goal

pub returns : goal.returns
returns c =
    let f = c.args.self.now in
    let sites : sites_in f.bytes.now ≡ map (λ r. site_from r 0) f.sites.records.now =
    sites_of_records f.bytes.now ∙ ap (map (λ r. site_from r 0)) (sym f.sites_read) in
    let got = lent_there f.sites.records.now c.args.place c.get.result c.get.ensures.lookup in
    let there = slice_get-map (λ r. site_from r 0) f.sites.records.now c.args.place in
    search rules
