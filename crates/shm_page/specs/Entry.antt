-- What a site has of a page, as the definitions speak of it.
use Rattle.shm_model.specs.Entry as model
use Rattle.shm_page.specs.declared.entry.Entry.{Entry}
use Rattle.shm_page.specs.declared.entry.Entry.TheVariants.{Nil, Copy, OwnRead, OwnWrite, Handed}

abbrev pub entry_of : {A : Type 0} → Entry A → model.Entry
entry_of (Nil page) = model.Nil page.seen
entry_of (Copy page) = model.Copy page.seen page.bytes
entry_of (OwnRead page) = model.OwnRead page.seen page.bytes
entry_of (OwnWrite page) = model.OwnWrite page.seen page.bytes
entry_of (Handed page) = model.Handed page.seen page.to page.bytes
