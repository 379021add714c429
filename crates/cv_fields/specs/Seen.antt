-- What fat pointers show: those of cv_type_defs.
use Rattle.cv_type_defs.specs.FatPointers.{Fat}
use Rattle.cv_fields.specs.declared.fat.Fat.{Fat as ReadFat}

abbrev pub fat_seen : ReadFat → Fat
fat_seen f = record { kind = f.kind; content = f.content; first = f.first; second = f.second }
