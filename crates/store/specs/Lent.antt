-- What is lent, as the contents that the law of the ledger speaks of.
use Rattle.store.specs.Storage.{Contents, contents}
use Rattle.store.specs.declared.form.Lent.{Lent}

abbrev pub contents_of : Lent → Contents
contents_of l = contents l.head.now l.groups.now l.pairs.now
