-- Every file of a bundle, at every depth (specific to this project).
use Rattle.std.specs.Prelude.{List, [], ◌++◌}
use Rattle.it_chain.specs.Contents.{Contents, contents_of, Folders, no_folders, folder}
use Rattle.it_chain.specs.declared.bundle.File.{File}

abbrev mutual
  -- the files of a bundle, and then those of its folders
  pub all_files : Contents → List File
  all_files (contents_of files below) = files ++ folder_files below

  -- the files of folders, at every depth
  pub folder_files : Folders → List File
  folder_files no_folders = []
  folder_files (folder name inner rest) = all_files inner ++ folder_files rest
